-- A number in the sixteen bytes of a pair, lent as a part of their own, is that of the whole part; and what `list_fits` says.
use mathlib.Core.Path.{◌≡◌, refl, sym, ◌∙◌}
use mathlib.Core.Bool.{true}
use mathlib.Core.List.{List}
use Prim.Native.Nat.{ℕ, zero, suc, ◌+◌, ◌-◌, ◌*◌, ◌≤◌}
use native.Mathlib.Omega.{arith}
use lib.ListN.{length, take, drop, length-take, length-drop}
use lib.Seq.{get_or-take, get_or-drop}
use lib.Dec.{leb}
use borrow.Author.Tests.{leb-true, le-leb}
use Rattle.std.proofs.lemmas.Bool.{and_parts}
use Rattle.form.specs.Fields.{little, number_at}
use Rattle.form.proofs.Numbers.{whole}
use Rattle.lists.specs.Lists.{list_fits}

-- ---- a pair's bytes
little-part : (part : List ℕ) (at m k n : ℕ) → k + n ≤ m → little (take m (drop at part)) k n ≡ little part (at + k) n
little-part part at m k zero h = refl
little-part part at m k (suc n) h =
    let e : at + (k + 1) ≡ at + k + 1 = omega arith in
    rw (get_or-take m (drop at part) k 0 (omega (arith, h)), get_or-drop at part k 0, little-part part at m (k + 1) n (omega (arith, h)), e)

pub number-in-pair : (part : List ℕ) (at k : ℕ) → at + 16 ≤ length part → k ≤ 8 → number_at (take (at + 16 - at) (drop at part)) k 8 ≡ number_at part (at + k) 8
number-in-pair part at k h l =
    let e : at + 16 - at ≡ 16 = omega arith in
    let long : k + 8 ≤ length (take 16 (drop at part)) = rw (length-take 16 (drop at part), length-drop at part) (omega (arith, h, l)) in
    rw e (whole (take 16 (drop at part)) k 8 long ∙ little-part part at 16 k 8 (omega (arith, l)) ∙ sym (whole part (at + k) 8 (omega (arith, h, l))))

pub first-in-pair : (part : List ℕ) (at : ℕ) → at + 16 ≤ length part → number_at (take (at + 16 - at) (drop at part)) 0 8 ≡ number_at part at 8
first-in-pair part at h = let e : at + 0 ≡ at = omega arith in number-in-pair part at 0 h (omega arith) ∙ rw e

-- ---- a list that fits
pub fits : (part : List ℕ) (n : ℕ) → list_fits part n ≡ true → (16 * n ≤ length part - 2) × (n ≤ 4096)
unfolding list_fits
fits part n h =
    let a = leb-true n 4096 (and_parts (leb n 4096) (leb (n * 16) (length part - 2)) h).0 in
    let b = leb-true (n * 16) (length part - 2) (and_parts (leb n 4096) (leb (n * 16) (length part - 2)) h).1 in
    (omega (arith, b), a)

pub does-fit : (part : List ℕ) (n : ℕ) → 16 * n ≤ length part - 2 → n ≤ 4096 → list_fits part n ≡ true
unfolding list_fits
does-fit part n h l = let e : n * 16 ≤ length part - 2 = omega (arith, h) in rw (le-leb n 4096 l, le-leb (n * 16) (length part - 2) e)

-- both numbers of a pair
pub ruleset in_pair = (number-in-pair, first-in-pair)
