-- What methods that put bytes leave of a writer: nothing put, one run of bytes after another, and all that a function put from the start.
use Prim.Native.Nat.{ℕ, ◌+◌, ◌<◌, ◌^◌}
use mathlib.Core.Path.{◌≡◌, refl, sym, ◌∙◌}
use mathlib.Core.List.{List, [], ◌++◌}
use native.Mathlib.Nat.{add-zero}
use native.Mathlib.Omega.{arith}
use lib.ListN.{length, length-append}
use Rattle.text.specs.declared.writer.Writer.{Writer}
use Rattle.text.specs.Bytes.{laid}
use Rattle.text.specs.Writer.{Wrote}
use Rattle.text.proofs.Laid.{laid-append}

pub nothing : (w : Writer) → Wrote w [] w
unfolding laid
nothing w = record { same_reference = refl; list = λ h. refl; place = λ h. sym (add-zero w.end) }

pub next : {w x y : Writer} {a b : List ℕ} → Wrote w a x → Wrote x b y → Wrote w (a ++ b) y
next {w} {x} {y} {a} {b} u v = record {
  same_reference = v.same_reference ∙ u.same_reference;
  list = λ (h : w.end + length (a ++ b) < 2 ^ 64).
      let e : w.end + length a < 2 ^ 64 = omega (arith, length-append a b) in
      let f : x.end + length b < 2 ^ 64 = omega (arith, length-append a b, u.place e) in
      cc (laid-append w.out.now w.end a b, u.list e, u.place e, v.list f);
  place = λ (h : w.end + length (a ++ b) < 2 ^ 64).
      let e : w.end + length a < 2 ^ 64 = omega (arith, length-append a b) in
      let f : x.end + length b < 2 ^ 64 = omega (arith, length-append a b, u.place e) in
      omega (arith, length-append a b, u.place e, v.place f);
}

pub same_bytes : {w x : Writer} {a b : List ℕ} → Wrote w a x → a ≡ b → Wrote w b x
same_bytes u e = rw e at u

pub from_start : {w x : Writer} {bytes : List ℕ} → w.end ≡ 0 → Wrote w bytes x → length bytes < 2 ^ 64
    → (x.out.now ≡ laid w.out.now 0 bytes) × (x.end ≡ length bytes)
from_start {w} {x} {bytes} e u h = (rw e at (u.list (omega arith)), omega (arith, u.place (omega arith)))
