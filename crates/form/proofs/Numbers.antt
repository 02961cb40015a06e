-- Numbers in bytes: inside the part, past its end, and in a list of their own.
use Rattle.std.proofs.Common.{◌≡◌, ℕ, zero, suc, ◌+◌, ◌<◌, ◌≤◌, List, length, take, drop, get_or, replicate, refl, arith, le-leb}
use Rattle.std.proofs.Common.{◌∙◌, inl, inr}
use Rattle.std.proofs.lemmas.List.{get_or-take, get_or-drop, get_or-replicate}
use Rattle.std.proofs.Math.ListN.{get_or-eq_default, length-replicate}
use borrow.Author.Tests.{lt-leb}
use Rattle.std.proofs.lemmas.Bool.{cases_lt}
use Rattle.form.specs.Fields.{little, number_at}

pub whole : (part : List ℕ) (at n : ℕ) → at + n ≤ length part → number_at part at n ≡ little part at n
whole part at n h = rw (le-leb _ _ h)

pub cut : (part : List ℕ) (at n : ℕ) → length part < at + n → number_at part at n ≡ 0
cut part at n h = rw (lt-leb _ _ h)

-- the same bytes in a list of their own, and zeros
pub little-part : (part : List ℕ) (at k n size : ℕ) → k + n ≤ size → little (take size (drop at part)) k n ≡ little part (at + k) n
little-part part at k zero size h = refl
little-part part at k (suc n) size h =
    let e : get_or (take size (drop at part)) k 0 ≡ get_or part (at + k) 0 = get_or-take size (drop at part) k 0 (omega arith) ∙ get_or-drop at part k 0 in
    let a : at + (k + 1) ≡ at + k + 1 = omega arith in
    let r = rw a at (little-part part at (k + 1) n size (omega arith)) in
    rw (e, r)

pub little-zeros : (size k n : ℕ) → little (replicate size 0) k n ≡ 0
little-zeros size k zero = refl
little-zeros size k (suc n) =
    let e : get_or (replicate size 0) k 0 ≡ 0 = zero-at size k in
    rw (e, little-zeros size (k + 1) n)
  where
    zero-at : (size k : ℕ) → get_or (replicate {A = ℕ} size 0) k 0 ≡ 0
    zero-at size k = elim (cases_lt k size) [
      | inl h ↦ get_or-replicate size k 0 0 h
      | inr h ↦ get_or-eq_default (replicate size 0) 0 (omega (arith, length-replicate {A = ℕ} size 0))
    ]
