-- The call on the canvas that the words mean.
use Rattle.ledger.specs.Calls.{draw}
use Rattle.words.specs.Hosted.{host}
use Rattle.hosts.proofs.LentCalls.{drawn, painted-finished}
use Rattle.hosts.proofs.calls.draw_shape.Goals as goal

pub returns : goal.returns
returns c =
    let a = c.args in
    let h = host a.canvas.now a.cells.now a.labels.now in
    drawn h (draw a.shape a.colour) c.load-c.ensures c.draw-called.ensures.answer c.draw-called.ensures.canvas a.painted.now tt c.draw-called.ensures.cells
    (painted-finished h c.draw-called.result c.finish_painted.ensures.status c.finish_painted.ensures.words) c.finish_painted.ensures.painted
