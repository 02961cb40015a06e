-- The pairs of a flat list: their number, and each by its place.
use Rattle.std.proofs.Common.{ℕ, zero, suc, ◌+◌, ◌*◌, ◌/◌, ◌<◌, ◌≤◌, ◌≡◌, refl, List, [], ◌∷◌, arith, length, get_or, Float}
use Rattle.pairs.specs.Origin.{origin}
use Rattle.flat.specs.Flat.{pairs_of}

pub length_pairs : (coords : List Float) → length (pairs_of coords) ≡ length coords / 2
length_pairs [] = refl
length_pairs (x ∷ []) = refl
length_pairs (x ∷ y ∷ rest) = omega (arith, length_pairs rest)

pub pair_at : (coords : List Float) (d e : Float) (i : ℕ) → i < length coords / 2
    → record { x = get_or coords (2 * i) d; y = get_or coords (2 * i + 1) e } ≡ get_or (pairs_of coords) i origin
pair_at [] d e i h = absurd (omega arith)
pair_at (x ∷ []) d e i h = absurd (omega arith)
pair_at (x ∷ y ∷ rest) d e zero h = refl
pair_at (x ∷ y ∷ rest) d e (suc i) h =
    let even : 2 * suc i ≡ suc (suc (2 * i)) = omega arith in
    let odd : 2 * suc i + 1 ≡ suc (suc (2 * i + 1)) = omega arith in
    rw (odd, even) (pair_at rest d e i (omega arith))

pub past_pairs : (coords : List Float) (i : ℕ) → length coords / 2 ≤ i → origin ≡ get_or (pairs_of coords) i origin
past_pairs [] i h = refl
past_pairs (x ∷ []) i h = refl
past_pairs (x ∷ y ∷ rest) zero h = absurd (omega arith)
past_pairs (x ∷ y ∷ rest) (suc i) h = past_pairs rest i (omega arith)
