-- The words of the label's part, by the law.
use Rattle.std.proofs.Common.{◌≡◌, ◌*◌, length, arith}
use lib.Seq.{take-length}
use Rattle.ledger.specs.Labels.{put_label}
use Rattle.ledger.proofs.Runs.{sets-label}
use Rattle.display.proofs.labels.put_label.Goals as goal

pub returns-after-loop-i : goal.returns-after-loop-i
unfolding put_label
returns-after-loop-i c =
    λ room few.
    let a = c.args in
    let e : c.loop-i.i ≡ length a.text.now = omega arith in
    rw (c.loop-i.invariant, e, take-length, c.place_words-column.ensures.0, c.place_words-column.ensures.1)
    (sets-label a.labels.now (a.k * 44) _ _ a.word (length a.text.now) a.text.now room few)
