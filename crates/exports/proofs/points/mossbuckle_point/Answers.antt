-- The dot on the canvas that the words mean.
use Rattle.exports.proofs.Statuses.{told}
use Rattle.exports.proofs.points.mossbuckle_point.Goals as goal

pub returns-clause-dot : goal.returns-clause-dot
returns-clause-dot c = told _ _ _ (rw (c.get_point.ensures, c.load-c.ensures) at c.put_dot.ensures.status)
