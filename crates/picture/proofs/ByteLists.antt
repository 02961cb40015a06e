-- A number or a float written in bytes is read back where its bytes stand: what is left of the list from a place on says what is read there.
use mathlib.Core.Path.{◌≡◌, refl, sym, ap, ◌∙◌}
use mathlib.Core.Bool.{Bool, true, false, cond}
use mathlib.Core.List.{List, [], ◌∷◌, ◌++◌}
use Prim.Native.Nat.{ℕ, zero, suc, ◌+◌, ◌/◌, ◌%◌, ◌<◌, ◌^◌}
use native.Mathlib.Nat.{add-zero}
use native.Mathlib.Omega.{arith}
use lib.Dec.{leb, T}
use lib.Ieee.{Float, binary64, to_bits, fits}
use lib.Ieee.Bits.{of_bits-to_bits, to_bits-lt}
use lib.ListN.{length, get_or, drop, length-append, length-drop}
use lib.Seq.{get_or-drop, drop-drop, drop_at}
use Rattle.floats.specs.Arithmetic.{bits}
use Rattle.form.specs.Fields.{little, number_at}
use Rattle.picture.specs.Encoding.{bytes_of, float_bytes, IsFloat}
use Rattle.form.proofs.Numbers.{whole}

length-bytes : (n value : ℕ) → length (bytes_of n value) ≡ n
length-bytes zero value = refl
length-bytes (suc n) value = ap suc (length-bytes n (value / 256))

-- what is left past some bytes
pub drop_past : (part : List ℕ) (at : ℕ) (front rest : List ℕ) (n : ℕ) → length front ≡ n → drop at part ≡ front ++ rest → drop (at + n) part ≡ rest
drop_past part at front rest n l e = sym (drop-drop n at part) ∙ rw (e, drop_at front rest n l)

-- the byte at a place is the first that is left from there on
pub get_d-left : (part : List ℕ) (at : ℕ) → get_or part at 0 ≡ get_or (drop at part) 0 0
get_d-left part at = ap (λ k. get_or part k 0) (sym (add-zero at)) ∙ sym (get_or-drop at part 0 0)

little-back : (part : List ℕ) (at n value : ℕ) (rest : List ℕ) → value < 256 ^ n → drop at part ≡ bytes_of n value ++ rest → little part at n ≡ value
little-back part at zero value rest h e = omega arith
little-back part at (suc n) value rest h e =
    let byte = rw e at (get_d-left part at) in
    let more = little-back part (at + 1) n (value / 256) rest (omega arith) (drop_past part at (value % 256 ∷ []) _ 1 refl e) in
    omega arith

pub number-back : (part : List ℕ) (at n value : ℕ) (rest : List ℕ) → value < 256 ^ n → drop at part ≡ bytes_of n value ++ rest → number_at part at n ≡ value
number-back part at zero value rest h e = either (leb (at + 0) (length part)) ∙ omega arith
  where
    either : (b : Bool) → cond {A = ℕ} b 0 0 ≡ 0
    either true = refl
    either false = refl
number-back part at (suc n) value rest h e =
    whole part at (suc n) (omega (arith, length-drop at part, ap length e, length-append (bytes_of n (value / 256)) rest, length-bytes n (value / 256))) ∙ little-back part at (suc n) value rest h e

pub float_back : (part : List ℕ) (at : ℕ) (x : Float) (rest : List ℕ) → IsFloat x → drop at part ≡ float_bytes x ++ rest → bits (number_at part at 8) ≡ x
float_back part at x rest h e =
    let holds : T (fits binary64 x) = rw h tt in
    rw (number-back part at 8 (to_bits binary64 x) rest (to_bits-lt binary64 x holds) e) (of_bits-to_bits binary64 x holds)
