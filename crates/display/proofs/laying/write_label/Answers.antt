-- The bytes that fit by the label's words, and that they are on the screen, by the laws.
use Rattle.std.proofs.Common.{◌≡◌, ◌∙◌}
use Rattle.ledger.specs.Labels.{label_at}
use Rattle.ledger.specs.Model.{fitting}
use Rattle.ledger.proofs.Written.{fitting-by, written-by}
use Rattle.display.proofs.laying.write_label.Goals as goal

pub returns-then-start-bytes : goal.returns-then-start-bytes
returns-then-start-bytes c =
    λ room edge good.
    let a = c.args in
    let n : c.fitting_bytes-n.result ≡ fitting a.c (label_at a.labels.now a.k) = c.fitting_bytes-n.ensures ∙ rw c.min-length.ensures (fitting-by a.labels.now a.k a.c room) in
    (n, c.write_bytes.ensures ∙ rw (c.spot_index-start.ensures.place, c.saturating_sub.ensures) (written-by a.labels.now a.k a.c room a.a a.screen.now c.fitting_bytes-n.result n))
