-- The call on the canvas that the words mean.
use Rattle.ledger.specs.Calls.{marker}
use Rattle.words.specs.Hosted.{host}
use Rattle.hosts.proofs.LentCalls.{marked, done-finished}
use Rattle.hosts.proofs.calls.mossbuckle_marker.Goals as goal

pub returns-clause-marked : goal.returns-clause-marked
returns-clause-marked c =
    let a = c.args in
    let h = host a.canvas.now a.cells.now a.labels.now in
    marked h (marker a.number a.character) c.load-c.ensures c.marker-called.ensures.answer c.marker-called.ensures.canvas tt c.marker-called.ensures.cells
    (done-finished h c.marker-called.result c.finish.ensures.status c.finish.ensures.words)
