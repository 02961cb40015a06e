-- A list of pairs in bytes: its length, and each pair by its place.
use Rattle.std.proofs.Common.{ℕ, zero, suc, ◌+◌, ◌*◌, ◌<◌, ◌≤◌, ◌≡◌, refl, sym, List, [], ◌∷◌, length, get_or, true, arith}
use Rattle.walk.specs.declared.clip.Pair.{Pair}
use Rattle.pairs.specs.Origin.{origin}
use Rattle.walk.proofs.Tabulated.{length-tabulate, get_or-tabulate}
use Rattle.lists.specs.Lists.{pair_at, pairs_at, list_fits}
use Rattle.lists.proofs.PairParts.{fits}

pub length-pairs-at : (part : List ℕ) (at n : ℕ) → length (pairs_at part at n) ≡ n
length-pairs-at part at n = length-tabulate n (λ k. pair_at part (at + 16 * k))

pub pair-by-place : (part : List ℕ) (at n i : ℕ) → i < n → pair_at part (at + 16 * i) ≡ get_or (pairs_at part at n) i origin
pair-by-place part at n i h = sym (get_or-tabulate n i (λ k. pair_at part (at + 16 * k)) origin h)

past_end : (pairs : List Pair) (i : ℕ) → length pairs ≤ i → origin ≡ get_or pairs i origin
past_end [] i h = refl
past_end (p ∷ pairs) zero h = absurd (omega arith)
past_end (p ∷ pairs) (suc i) h = past_end pairs i (omega arith)

pub past-pairs : (part : List ℕ) (at n i : ℕ) → n ≤ i → origin ≡ get_or (pairs_at part at n) i origin
past-pairs part at n i h = past_end (pairs_at part at n) i (rw (length-pairs-at part at n) h)

-- a place in the list of a part that has it
pub place-in-list : (part : List ℕ) (n i : ℕ) → list_fits part n ≡ true → i < n → (i < 4096) × (2 + 16 * i + 16 ≤ length part)
place-in-list part n i e within =
    let f = fits part n e in
    (omega (arith, within, f.1), omega (arith, within, f.0))

-- all that a list read by place needs
pub ruleset by_place = (length-pairs-at, pair-by-place, past-pairs, place-in-list)
