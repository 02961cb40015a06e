-- After k turns the first k cells are blank.
use Rattle.std.proofs.Common.{◌≡◌}
use Rattle.report.specs.Screen.{blanked}
use Rattle.report.proofs.screen.blank_screen.Given as goal

abbrev pub invariant-loop-k : goal.invariant-loop-k
invariant-loop-k l = record { blank : l.screen ≡ blanked l.initial.screen l.k }
