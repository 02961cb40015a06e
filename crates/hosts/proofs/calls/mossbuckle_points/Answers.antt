-- The call on the canvas that the words mean.
use Rattle.ledger.specs.Calls.{points}
use Rattle.flat.specs.Flat.{pairs_of}
use Rattle.words.specs.Hosted.{host}
use Rattle.hosts.proofs.LentCalls.{drawn, painted-finished}
use Rattle.hosts.proofs.calls.mossbuckle_points.Goals as goal

pub returns : goal.returns
returns c =
    let a = c.args in
    let h = host a.canvas.now a.cells.now a.labels.now in
    drawn h (points (pairs_of a.coords.now) a.colour) c.load-c.ensures c.points-called.ensures.answer c.points-called.ensures.canvas a.painted.now tt c.points-called.ensures.cells
    (painted-finished h c.points-called.result c.finish_painted.ensures.status c.finish_painted.ensures.words) c.finish_painted.ensures.painted
