-- With every bit of the map each field's place is a number, as in the code.
use Rattle.records.proofs.CompleteRecords.{line-is, bad-line}
use Rattle.records.proofs.complete.complete_line.Goals as goal

pub returns : goal.returns
returns c = rw c.ends_of.ensures (line-is c.args.part.now _ _ c.end_bits-e.ensures c.read.ensures)

pub invariant_of-result : goal.invariant_of-result
invariant_of-result c = record { judged = rw c.ends_of.ensures (bad-line c.end_bits-e.result _ c.is_far_line.ensures) }
