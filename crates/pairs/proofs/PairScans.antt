-- Lists of pairs for the loops that go through one by place: whether a pair is bad, and the points of the pairs.
use Rattle.std.proofs.Common.{◌≡◌, refl, sym, ◌∙◌, Bool, true, false, ◌||◌, List, [], ◌∷◌, length, drop, ℕ, zero, suc, ◌+◌, ◌<◌, ◌≤◌, get_or, arith}
use Rattle.std.proofs.Math.ListN.{drop_of_length-le}
use Rattle.walk.specs.declared.clip.Pair.{Pair}
use Rattle.shapes.proofs.PaintLists.{pair-next, point-le}
use Rattle.ledger.specs.Calls.{bad_point, bad_pairs}
use Rattle.pairs.specs.Origin.{origin}

-- the list from the pair i on, by that pair, and past the last one
pub bad-from : (pairs : List Pair) (i : ℕ) → i < length pairs
    → bad_pairs (drop i pairs) ≡ bad_point (get_or pairs i origin).x (get_or pairs i origin).y || bad_pairs (drop (i + 1) pairs)
unfolding bad_pairs
bad-from [] i h = absurd (omega arith)
bad-from (p ∷ pairs) zero h = refl
bad-from (p ∷ pairs) (suc i) h = let e : suc i + 1 ≡ suc (i + 1) = omega arith in rw e (bad-from pairs i (omega arith))

pub bad-past : (pairs : List Pair) (i : ℕ) → length pairs ≤ i → bad_pairs (drop i pairs) ≡ false
unfolding bad_pairs
bad-past pairs i h = rw (drop_of_length-le pairs h)

pub ruleset scans = (bad-from, bad-past)

-- the same over any pair that is read past the end
bad-at : (pairs : List Pair) (d : Pair) (i : ℕ) → i < length pairs → bad_pairs (drop i pairs) ≡ bad_point (get_or pairs i d).x (get_or pairs i d).y || bad_pairs (drop (i + 1) pairs)
unfolding bad_pairs
bad-at [] d i h = absurd (omega arith)
bad-at (p ∷ pairs) d zero h = refl
bad-at (p ∷ pairs) d (suc i) h = let e : suc i + 1 ≡ suc (i + 1) = omega arith in rw e (bad-at pairs d i (omega arith))

-- the pair i is bad, or not, in a list that holds no bad one before it
module _ (pairs : List Pair) (d : Pair) (i : ℕ) (t : Bool) (within : i < length pairs) (so_far : bad_pairs pairs ≡ bad_pairs (drop i pairs))
    (is : t ≡ bad_point (get_or pairs i d).x (get_or pairs i d).y) where
  next : bad_pairs pairs ≡ t || bad_pairs (drop (i + 1) pairs)
  next = so_far ∙ rw is (bad-at pairs d i within)

  pub some-bad : t ≡ true → true ≡ bad_pairs pairs
  some-bad bad = sym (next ∙ rw bad)

  pub none-bad : t ≡ false → bad_pairs pairs ≡ bad_pairs (drop (i + 1) pairs)
  none-bad good = next ∙ rw good

-- one point more, of at most one dot
pub ruleset painting = (pair-next, point-le)
