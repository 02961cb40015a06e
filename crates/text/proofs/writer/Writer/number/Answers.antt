-- The digits that are left stand before those in the buffer.
use mathlib.Core.Logic.{inl, inr}
use mathlib.Core.Path.{refl, sym, ◌∙◌}
use lib.ListN.{length-set}
use Rattle.std.proofs.Common.{arith}
use Rattle.text.proofs.DigitSteps.{all_below, place_left, last_digit, digits-next}
use Rattle.text.proofs.WriterSteps.{same_bytes}
use Rattle.text.proofs.writer.Writer.number.Goals as goal
use Rattle.text.proofs.writer.Writer.number.Goals.{then-n, else-n+then-least-gt1}

pub loop-n-init : goal.loop-n-init
loop-n-init g c = record { size = refl; place = omega arith; few = omega arith; below = all_below g.row.BASE c.args.n c.requires.base.0 c.ranges.n.fits; digits = refl }

pub overflow_sub-first : goal.overflow_sub-first
overflow_sub-first g c =
    let v = c.loop-n in
    place_left g.row.BASE c.requires.base.0 v.least v.n v.first v.invariant.few v.invariant.below
    (elim c.if-n.branch [ then-n w ↦ inl w.if-n.true | else-n+then-least-gt1 w ↦ inr w.if-least-gt1.true ])

pub loop-n-smaller : goal.loop-n-smaller
loop-n-smaller g c =
    let v = c.loop-n in
    let q = place_left g.row.BASE c.requires.base.0 v.least v.n v.first v.invariant.few v.invariant.below
    (elim c.if-n.branch [ then-n w ↦ inl w.if-n.true | else-n+then-least-gt1 w ↦ inr w.if-least-gt1.true ]) in
    omega arith

pub loop-n-preserved : goal.loop-n-preserved
loop-n-preserved g c =
    let v = c.loop-n in
    let d = digits-next g.row.BASE c.requires.base.0 v.least v.n v.buffer v.invariant.size v.first v.invariant.place v.invariant.few v.invariant.below
    (elim c.if-n.branch [ then-n w ↦ inl w.if-n.true | else-n+then-least-gt1 w ↦ inr w.if-least-gt1.true ]) in
    record {
      size = length-set v.buffer v.first c.digit.result ∙ v.invariant.size;
      place = omega arith;
      few = omega arith;
      below = d.0;
      digits = v.invariant.digits ∙ rw (sym c.digit.ensures, sym c.saturating_sub-least.ensures) at d.1;
    }

pub returns : goal.returns
returns g c =
    let v = c.loop-n in
    let d = last_digit g.row.BASE c.requires.base.0 v.least v.n v.buffer v.invariant.size v.first v.invariant.place c.if-n.false c.if-least-gt1.false in
    same_bytes c.bytes.ensures (sym (v.invariant.digits ∙ rw (sym c.digit-2.ensures) at d))
