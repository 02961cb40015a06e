-- One byte more is stored, or is past the end and dropped.
use Prim.Native.Nat.{◌+◌, ◌<◌, ◌^◌}
use mathlib.Core.Path.{refl, sym}
use native.Mathlib.Nat.{add-zero}
use native.Mathlib.Omega.{arith}
use lib.ListN.{get_or}
use lib.Seq.{set_out}
use Rattle.text.specs.Bytes.{laid}
use Rattle.text.proofs.Laid.{laid-next}
use Rattle.text.proofs.writer.Writer.bytes.Goals as goal
use Rattle.text.proofs.writer.Writer.bytes.Goals.{then-end-out, else-end-out}

pub loop-byte-init : goal.loop-byte-init
unfolding laid
loop-byte-init c = record { list = λ h. refl; place = λ h. sym (add-zero _) }

pub loop-byte-preserved : goal.loop-byte-preserved
loop-byte-preserved c =
    let w = c.args.self.now in
    let bytes = c.args.bytes.now in
    let v = c.loop-byte in record {
      list = λ (h : w.end + (v.byte-index + 1) < 2 ^ 64).
          let e = laid-next w.out.now bytes w.end v.byte-index c.loop-byte-test.true in
          let before = v.invariant.list (omega arith) in
          let place = v.invariant.place (omega arith) in
          elim c.if-end-out.branch [
            | then-end-out b ↦ cc (e, before, place, b.out-is)
            | else-end-out b ↦ cc (e, before, place, b.out-is, set_out v.out v.end (get_or bytes v.byte-index 0) b.if-end-out.false)
          ];
      place = λ (h : w.end + (v.byte-index + 1) < 2 ^ 64). omega (arith, v.invariant.place (omega arith));
    }
