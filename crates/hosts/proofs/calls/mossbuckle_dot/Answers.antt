-- The call on the canvas that the words mean.
use Rattle.ledger.specs.Calls.{dot}
use Rattle.words.specs.Hosted.{host}
use Rattle.hosts.proofs.LentCalls.{drawn, painted-finished}
use Rattle.hosts.proofs.calls.mossbuckle_dot.Goals as goal

pub returns : goal.returns
returns c =
    let a = c.args in
    let h = host a.canvas.now a.cells.now a.labels.now in
    drawn h (dot a.column a.row a.colour) c.load-c.ensures c.dot-called.ensures.answer c.dot-called.ensures.canvas a.painted.now tt c.dot-called.ensures.cells
    (painted-finished h c.dot-called.result c.finish_painted.ensures.status c.finish_painted.ensures.words) c.finish_painted.ensures.painted
