-- A list of pairs written in bytes is read back: by induction on the pairs, the first is read where the list begins.
use mathlib.Core.Path.{◌≡◌, refl, ap, ◌∙◌}
use mathlib.Core.List.{List, [], ◌∷◌, ◌++◌}
use Prim.Native.Nat.{ℕ, zero, suc, ◌+◌, ◌*◌}
use native.Mathlib.Omega.{arith}
use lib.ListN.{length, drop}
use Rattle.walk.specs.Tabulate.{tabulate}
use Rattle.walk.proofs.Tabulated.{tabulate-same}
use Rattle.walk.specs.declared.clip.Pair.{Pair}
use Rattle.ledger.specs.Promise.{Every, nil, cons}
use Rattle.lists.specs.Lists.{pair_at, pairs_at}
use Rattle.picture.specs.Encoding.{float_bytes, pair_bytes, WritablePair}
use Rattle.picture.proofs.ByteLists.{drop_past, float_back}

pub length_pairs : (pairs : List Pair) → length (pair_bytes pairs) ≡ 16 * length pairs
length_pairs [] = refl
length_pairs (p ∷ pairs) = omega (arith, length_pairs pairs)

-- the first entry of a table, then the others
tabulate-first : {A : Type 0} (n : ℕ) (f : ℕ → A) → tabulate (suc n) f ≡ f 0 ∷ tabulate n (λ k. f (suc k))
tabulate-first zero f = refl
tabulate-first (suc n) f = rw (tabulate-first n f)

pub pairs-back : (part : List ℕ) (at : ℕ) (pairs : List Pair) (rest : List ℕ) → Every WritablePair pairs → drop at part ≡ pair_bytes pairs ++ rest → pairs_at part at (length pairs) ≡ pairs
pairs-back part at [] rest nil e = refl
pairs-back part at (p ∷ pairs) rest (cons h all) e =
    let z : at + 16 * 0 ≡ at = omega arith in
    let others = pairs-back part (at + 16) pairs rest all (drop_past part at (float_bytes p.x ++ float_bytes p.y) _ 16 refl e) in
    let same : (k : ℕ) → at + 16 * suc k ≡ at + 16 + 16 * k = omega arith in
    let shifted = tabulate-same (length pairs) (λ k. pair_at part (at + 16 * suc k)) (λ k. pair_at part (at + 16 + 16 * k)) (λ k l. ap (pair_at part) (same k)) in
    let x = float_back part at p.x _ h.0 e in
    let y = float_back part (at + 8) p.y _ h.1 (drop_past part at (float_bytes p.x) _ 8 refl e) in
    tabulate-first (length pairs) (λ k. pair_at part (at + 16 * k)) ∙ rw (z, shifted, others, x, y)
