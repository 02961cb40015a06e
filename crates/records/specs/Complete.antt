-- The kinds of records that the code takes as a whole, by document 01's numbers.
use Rattle.std.specs.Prelude.{ℕ}
use Rattle.records.specs.declared.complete.Complete.{Complete}
use Rattle.records.specs.declared.complete.Complete.TheVariants.{Line, FilledLine, Circle}

abbrev pub complete_number : Complete → ℕ
complete_number Line = 1
complete_number FilledLine = 2
complete_number Circle = 4
