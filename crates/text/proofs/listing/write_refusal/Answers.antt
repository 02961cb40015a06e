-- The parts of the line, one after the other.
use native.Mathlib.Omega.{arith}
use Rattle.std.proofs.Common.{rules}
use Rattle.text.specs.Listing.{refusal_line}
use Rattle.text.proofs.Lengths.{refusal-length}
use Rattle.text.proofs.WriterSteps.{next, from_start}
use Rattle.text.proofs.listing.write_refusal.Goals as goal

pub returns : goal.returns
unfolding refusal_line
returns c =
    let w = from_start c.new-writer.ensures.start (next c.bytes.ensures (next (rw c.from.ensures at c.field.ensures) (next c.bytes-2.ensures c.field-2.ensures))) (omega (arith, refusal-length c.args.number c.args.place)) in
    (search (rules, w.0), omega (arith, w.1))
