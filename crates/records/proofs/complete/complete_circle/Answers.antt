-- With every bit of the map each field's place is a number, as in the code.
use Rattle.records.proofs.CompleteRecords.{circle-is, bad-circle}
use Rattle.records.proofs.complete.complete_circle.Goals as goal

pub returns : goal.returns
returns c =
    rw (c.from_bits.ensures, c.from_bits-2.ensures, c.from_bits-3.ensures) (circle-is c.args.part.now _ _ _ _ c.read-x.ensures c.read-y.ensures c.read-radius.ensures c.read.ensures)

pub invariant_of-result : goal.invariant_of-result
invariant_of-result c = record { judged = rw (c.from_bits.ensures, c.from_bits-2.ensures, c.from_bits-3.ensures) (bad-circle c.read-x.result c.read-y.result c.read-radius.result _ _ _ c.is_far.ensures c.is_far-2.ensures c.is_far-3.ensures) }
