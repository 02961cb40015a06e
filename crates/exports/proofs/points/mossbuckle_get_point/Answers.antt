-- The dot on the canvas that the numbers make.
use Rattle.exports.proofs.Statuses.{told}
use Rattle.exports.proofs.points.mossbuckle_get_point.Goals as goal

pub returns-clause-dot : goal.returns-clause-dot
returns-clause-dot c = told _ _ _ (rw (c.get_point.ensures, c.opened-canvas.ensures) at c.put_dot.ensures.status)
