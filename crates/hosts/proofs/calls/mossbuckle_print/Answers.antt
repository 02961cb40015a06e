-- The call on the canvas that the words mean.
use Rattle.words.specs.Hosted.{host}
use Rattle.hosts.proofs.LentCalls.{printed, done-finished}
use Rattle.hosts.specs.Calls.{choice_of}
use Rattle.hosts.proofs.calls.mossbuckle_print.Goals as goal

pub returns : goal.returns
returns c =
    let a = c.args in
    let h = host a.canvas.now a.cells.now a.labels.now in
    let w = rw c.choice_of-choice.ensures at c.print-called.ensures in
    printed h a.x a.y a.text.now (choice_of a.colour) c.load-c.ensures w.answer w.canvas w.labels
    (done-finished h c.print-called.result c.finish.ensures.status c.finish.ensures.words)
