-- With every bit of the map each field's place is a number, as in the code.
use Rattle.records.proofs.CompleteRecords.{filled-line-is, bad-filled-line}
use Rattle.records.proofs.complete.complete_filled_line.Goals as goal

pub returns : goal.returns
returns c = rw (c.ends_of.ensures, c.from_bits.ensures) (filled-line-is c.args.part.now _ _ _ c.end_bits-e.ensures c.read-fill.ensures c.read.ensures)

pub invariant_of-result : goal.invariant_of-result
invariant_of-result c = record { judged = rw (c.ends_of.ensures, c.from_bits.ensures) (bad-filled-line c.end_bits-e.result c.read-fill.result _ _ c.is_far_line.ensures c.is_far.ensures) }
