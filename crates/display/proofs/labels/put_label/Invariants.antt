-- Invariant: the words after the fourth are the first i bytes of the text.
use Rattle.std.proofs.Common.{◌≡◌, take}
use lib.Seq.{sets}
use Rattle.display.proofs.labels.put_label.Given as goal

abbrev pub invariant-loop-i : goal.invariant-loop-i
invariant-loop-i l = l.label ≡ sets l.initial.label 4 (take l.i l.text)
