-- The tests in the order of the definition.
use Rattle.std.proofs.Common.{◌≡◌, ℕ, ◌+◌, ◌<◌, ◌^◌, List, length, arith}
use Rattle.std.proofs.lemmas.Result.{err_from_is_err_and}
use Rattle.form.specs.Forms.{map_at, record_widths, record_end}
use Rattle.form.proofs.FormSteps.{Headed, headed, extra-refused, map-bound, widths-are, too_long, ended-early, unknown-kind, cut_short, well-formed}
use Rattle.form.proofs.sizes.record_form.Goals as goal
use Rattle.form.proofs.sizes.record_form.Goals.{then-at-gt65536-via-then-at-gt65536, then-at-gt65536-via-else-at-gt65536+then-file-at, In_ok-size}

pub returns-then-file-gt65536-clause-number : goal.returns-then-file-gt65536-clause-number
returns-then-file-gt65536-clause-number c = let a = c.args in too_long a.file.now a.at c.if-file-gt65536.true

pub returns-then-at-gt65536-clause-number : goal.returns-then-at-gt65536-clause-number
returns-then-at-gt65536-clause-number c =
    let a = c.args in
    let early : length a.file.now < a.at + 2 =
    elim c.then-at-gt65536.branch [ then-at-gt65536-via-then-at-gt65536 w ↦ omega arith | then-at-gt65536-via-else-at-gt65536+then-file-at w ↦ omega arith ] in
    ended-early a.file.now a.at c.if-file-gt65536.false early

pub returns-in_err-kind-clause-number : goal.returns-in_err-kind-clause-number
returns-in_err-kind-clause-number c =
    let a = c.args in
    let h = c.in_err-kind.ensures in
    let p = err_from_is_err_and c.from_residual.result c.from_residual.ensures.1 in
    rw (p.1, p.2, h.0) (unknown-kind a.file.now a.at c.if-file-gt65536.false c.if-file-at.false h.1)

pub returns-in_err-size-clause-number : goal.returns-in_err-size-clause-number
returns-in_err-size-clause-number c =
    let a = c.args in
    let p = err_from_is_err_and c.from_residual-in_err-size.result c.from_residual-in_err-size.ensures.1 in
    let e = rw (widths-are a.file.now a.at _ c.in_ok-kind.ensures) at c.in_err-size.ensures.number in
    rw (p.1, p.2) (extra-refused _ _ _ (headed _ _ _ c.in_ok-kind.ensures c.if-file-gt65536.false c.if-file-at.false) e)

-- a known kind, whose map has no other bit, and where the record ends
record Sized (file : List ℕ) (at size : ℕ) : Type 0 where
  head : Headed file at
  few : map_at file at < 2 ^ length (record_widths file at)
  end : at + 2 + size ≡ record_end file at

sized : (c : In_ok-size) → Sized c.args.file.now c.args.at c.in_ok-size.size
unfolding record_end
sized c =
    let file = c.args.file.now in
    let w = widths-are file c.args.at _ c.in_ok-kind.ensures in
    let e = rw w at c.in_ok-size.ensures.value in
    record {
      head = headed _ _ _ c.in_ok-kind.ensures c.if-file-gt65536.false c.if-file-at.false;
      few = map-bound file c.args.at (rw w at c.in_ok-size.ensures.number);
      end = rw e;
    }

pub returns-then-part-size-clause-number : goal.returns-then-part-size-clause-number
returns-then-part-size-clause-number c =
    let s = sized (goal.at.returns-then-part-size-clause-number c).In_ok-size in
    cut_short _ _ s.head s.few (omega (arith, s.end, c.if-part-size.true))

pub returns-clause-number : goal.returns-clause-number
returns-clause-number c =
    let s = sized (goal.at.returns-clause-number c).In_ok-size in
    well-formed _ _ s.head s.few (omega (arith, s.end, c.if-part-size.false))

pub returns-clause-end : goal.returns-clause-end
returns-clause-end c =
    let s = sized (goal.at.returns-clause-end c).In_ok-size in
    s.end
