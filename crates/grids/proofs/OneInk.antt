-- Two dots of one ink, one after the other, may change places: patterns by bit_or's laws, inks as they are equal, and what is kept of a list likewise.
use mathlib.Core.Path.{◌≡◌, refl, sym, ap, ◌∙◌}
use mathlib.Core.Bool.{Bool, true, false, cond}
use mathlib.Core.List.{List, [], ◌∷◌, ◌++◌}
use Prim.Native.Nat.{ℕ}
use lib.Dec.{eqb}
use lib.Bits.{bit_or, or_comm}
use Rattle.grids.specs.declared.layer.LayerCell.{LayerCell}
use Rattle.grids.specs.Lists.{keep}
use Rattle.grids.specs.Markers.{is_half_block}
use Rattle.grids.specs.Dots.{Inked, cell_index, bit_of, pattern_of, last_ink, is_upper, is_lower, half_block_cell, grid_cell, set_by, layer_sets}
use Rattle.grids.proofs.Words.{keep_append}
use Rattle.grids.proofs.Patterns.{or_assoc}
use Rattle.grids.specs.declared.markers.Marker.{Marker}

-- f does not see a and b change places
abbrev Blind : {A B : Type 0} → (List A → B) → A → A → Type 0
Blind {A} f a b = (xs ys : List A) → f (xs ++ (a ∷ b ∷ ys)) ≡ f (xs ++ (b ∷ a ∷ ys))

blind-kept : {A B : Type 0} (f : List A → B) (t : A → Bool) (a b : A) → Blind f a b → Blind (λ l. f (keep t l)) a b
blind-kept f t a b swap xs ys = rw (keep_append t xs (a ∷ b ∷ ys), keep_append t xs (b ∷ a ∷ ys)) (go (t a) (t b))
  where
    go : (p q : Bool) → f (keep t xs ++ cond p (a ∷ cond q (b ∷ keep t ys) (keep t ys)) (cond q (b ∷ keep t ys) (keep t ys)))
        ≡ f (keep t xs ++ cond q (b ∷ cond p (a ∷ keep t ys) (keep t ys)) (cond p (a ∷ keep t ys) (keep t ys)))
    go true true = swap (keep t xs) (keep t ys)
    go true false = refl
    go false true = refl
    go false false = refl

blind-pattern : (marker : Marker) (a b : Inked) → Blind (pattern_of marker) a b
blind-pattern marker a b [] ys =
    let p = bit_of marker a.column a.row in
    let q = bit_of marker b.column b.row in
    let r = pattern_of marker ys in
    sym (or_assoc p q r) ∙ ap (λ (n : ℕ). bit_or n r) (or_comm p q) ∙ or_assoc q p r
blind-pattern marker a b (x ∷ xs) ys = rw (blind-pattern marker a b xs ys)

blind-ink : (a b : Inked) → a.ink ≡ b.ink → Blind last_ink a b
blind-ink a b e [] ys = rw e
blind-ink a b e (x ∷ xs) ys = rw (blind-ink a b e xs ys)

-- what a list with a dot in it sets
abbrev set_by_some : Marker → ℕ → List Inked → LayerCell
set_by_some marker character dots =
    cond (is_half_block marker) (half_block_cell (last_ink (keep is_upper dots)) (last_ink (keep is_lower dots))) (grid_cell marker character (pattern_of marker dots) (last_ink dots))

set-by-some : (marker : Marker) (character : ℕ) (xs : List Inked) (d : Inked) (ys : List Inked) → set_by marker character (xs ++ (d ∷ ys)) ≡ set_by_some marker character (xs ++ (d ∷ ys))
unfolding set_by
set-by-some marker character [] d ys = refl
set-by-some marker character (x ∷ xs) d ys = refl

pub set-swap : (marker : Marker) (character : ℕ) (xs : List Inked) (a b : Inked) (ys : List Inked) → a.ink ≡ b.ink → set_by marker character (xs ++ (a ∷ b ∷ ys)) ≡ set_by marker character (xs ++ (b ∷ a ∷ ys))
set-swap marker character xs a b ys e =
    set-by-some marker character xs a (b ∷ ys)
    ∙ rw (
      blind-kept last_ink is_upper a b (blind-ink a b e) xs ys,
      blind-kept last_ink is_lower a b (blind-ink a b e) xs ys,
      blind-pattern marker a b xs ys,
      blind-ink a b e xs ys,
    )
    (sym (set-by-some marker character xs b (a ∷ ys)))

pub layer-swap : (marker : Marker) (character columns : ℕ) (xs : List Inked) (a b : Inked) (ys : List Inked) (i : ℕ) → a.ink ≡ b.ink → layer_sets marker character columns (xs ++ (a ∷ b ∷ ys)) i ≡ layer_sets marker character columns (xs ++ (b ∷ a ∷ ys)) i
layer-swap marker character columns xs a b ys i e =
    blind-kept (set_by marker character) (λ d. eqb (cell_index marker columns d.column d.row) i) a b (λ us vs. set-swap marker character us a b vs e) xs ys
