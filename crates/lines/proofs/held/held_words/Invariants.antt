-- After k turns the words of the first k cells are set: `at` has made k steps, and `place` k slopes.
use Rattle.std.proofs.Common.{◌≡◌}
use Rattle.lines.specs.HeldWords.{word_after, words_set}
use Rattle.lines.proofs.WordLoops.{AtTurn}
use Rattle.lines.proofs.held.held_words.Given as goal

abbrev pub invariant-loop-k : goal.invariant-loop-k
invariant-loop-k l =
    AtTurn l.start l.step l.from l.slope l._k l.at l.place × (l.cells ≡ words_set l.word (word_after l.start l.step l.unit l.from l.slope) l.initial.cells l._k)
