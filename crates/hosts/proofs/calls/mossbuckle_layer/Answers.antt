-- The call on the canvas that the words mean.
use Rattle.ledger.specs.Calls.{layer}
use Rattle.words.specs.Hosted.{host}
use Rattle.hosts.proofs.LentCalls.{marked, done-finished}
use Rattle.hosts.proofs.calls.mossbuckle_layer.Goals as goal

pub returns : goal.returns
returns c =
    let a = c.args in
    let h = host a.canvas.now a.cells.now a.labels.now in
    marked h layer c.load-c.ensures c.layer-called.ensures.answer c.layer-called.ensures.canvas tt c.layer-called.ensures.cells
    (done-finished h c.layer-called.result c.finish.ensures.status c.finish.ensures.words)
