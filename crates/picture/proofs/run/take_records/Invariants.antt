-- What is left of the run at each record is the run from the start.
use Rattle.std.proofs.Common.{◌≡◌, ◌-◌, length}
use Rattle.ledger.specs.Outcomes.{given}
use Rattle.picture.specs.Run.{records_from}
use Rattle.picture.proofs.run.take_records.Given as goal

abbrev pub invariant-loop-at : goal.invariant-loop-at
invariant-loop-at l = record {
  run : records_from l.file l.at (given l.canvas l.cells l.labels) ≡ records_from l.file l.initial.at (given l.initial.canvas l.initial.cells l.initial.labels);
}

abbrev pub decreases-loop-at : goal.decreases-loop-at
decreases-loop-at l = length l.file - l.at
