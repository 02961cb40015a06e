-- Invariant: where no bit was found, the words passed are 0.
use Rattle.std.proofs.Common.{◌≡◌, ℕ, ◌<◌, get_or}
use Rattle.display.proofs.laying.is_blank.Given as goal

abbrev pub invariant-loop-word : goal.invariant-loop-word
invariant-loop-word l = l.any ≡ 0 → (k : ℕ) → k < l.word-index → get_or l.words k 0 ≡ 0
