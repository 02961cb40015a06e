-- Lists of dots painted one after the other: a list in two parts, the column from a dot, and how many dots there are.
use Rattle.std.proofs.Common.{◌≡◌, ℕ, ◌+◌, ◌-◌, ◌^◌, ◌<◌, ◌≤◌, min, max, List, [], ◌∷◌, ◌++◌, length, sym, refl, ap, append_assoc, append-nil, arith, length-append}
use Rattle.walk.specs.Tabulate.{tabulate}
use Rattle.walk.specs.Line.{apart}
use Rattle.walk.specs.declared.bresenham.Dot.{Dot}
use Rattle.walk.proofs.Tabulated.{length-tabulate}
use Rattle.columns.specs.Columns.{column_dots}
use Rattle.grids.proofs.Words.{foldl-append}
use Rattle.lines.specs.Painted.{flat, dot_at, column_to, painted_by, Painted}
use Rattle.lines.specs.declared.painter.Painter.{Painter}

-- one list, then another
pub painted-then : (p : Painter) (before between after : List ℕ) (xs ys : List Dot) (m n : ℕ)
    → Painted p before xs m between → Painted p between ys n after → Painted p before (xs ++ ys) (m + n) after
painted-then p before between after xs ys m n f g = (
  rw (f.0, g.0) (sym (length-append xs ys)),
  rw foldl-append (rw f.1 at g.1),
)

-- ---- the lists of each element
pub flat_append : {A B : Type 0} (f : A → List B) (xs ys : List A) → flat f (xs ++ ys) ≡ flat f xs ++ flat f ys
flat_append f [] ys = refl
flat_append f (x ∷ xs) ys = rw (flat_append f xs ys, append_assoc)

pub flat-next : {A B : Type 0} (f : A → List B) (xs : List A) (x : A) → flat f (xs ++ (x ∷ [])) ≡ flat f xs ++ f x
flat-next f xs x = rw (flat_append f xs (x ∷ []), append-nil)

-- ---- a column from its lower row
column-over : (column row fill low high : ℕ) → low ≡ min row fill → high ≡ max row fill → column_dots column low (high + 1 - low) ≡ column_to fill (dot_at column row)
column-over column row fill low high l h =
    let a : high + 1 - low ≡ apart row fill + 1 = omega arith in
    rw a (ap (λ (m : ℕ). tabulate (apart row fill + 1) (λ i. dot_at column (m + i))) l)

length-column : (fill : ℕ) (d : Dot) → length (column_to fill d) ≡ apart d.row fill + 1
length-column fill d = length-tabulate (apart d.row fill + 1) (λ k. dot_at d.column (min d.row fill + k))

pub column-le : (fill : ℕ) (d : Dot) (n : ℕ) → n ≡ length (column_to fill d) → fill < 2 ^ 32 → d.row < 2 ^ 32 → n ≤ 2 ^ 32
column-le fill d n e f r = omega (arith, length-column fill d)

pub painted-column : (p : Painter) (before after : List ℕ) (column row fill low high : ℕ) → low ≡ min row fill → high ≡ max row fill
    → after ≡ painted_by p before (column_dots column low (high + 1 - low)) → Painted p before (column_to fill (dot_at column row)) (high - low + 1) after
painted-column p before after column row fill low high l h g = (
  omega (arith, length-column fill (dot_at column row)),
  rw (column-over column row fill low high l h) at g,
)
