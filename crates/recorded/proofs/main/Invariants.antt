-- A file of the bundle agrees or differs, so both counts fit.
use Rattle.std.proofs.Common.{◌+◌, ◌≤◌}
use Rattle.recorded.proofs.main.Given as goal

abbrev pub invariant-loop : goal.invariant-loop
invariant-loop l = l.agree + l.differ ≤ l.counter
