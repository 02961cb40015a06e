-- A list of pairs in bytes: read one after the other, in two parts, and painted part after part.
use mathlib.Core.Path.{◌≡◌, ap, ◌∙◌}
use mathlib.Core.List.{List, ◌++◌, append_assoc, append-nil}
use Prim.Native.Nat.{ℕ, zero, suc, ◌+◌, ◌-◌, ◌*◌, ◌≤◌, ◌<◌, min}
use Rattle.std.specs.Int.{div_ceil}
use native.Mathlib.Omega.{arith}
use lib.ListN.{length}
use Rattle.walk.specs.Tabulate.{tabulate}
use Rattle.walk.proofs.Tabulated.{tabulate-same}
use Rattle.walk.specs.declared.clip.Pair.{Pair}
use Rattle.view.specs.Point.{point_of}
use Rattle.view.specs.declared.point.View.{View}
use Rattle.shapes.specs.Shapes.{point_dots, pair_dots}
use Rattle.shapes.proofs.DotCounts.{pairs-count}
use Rattle.lines.specs.Painted.{Painted}
use Rattle.lines.specs.declared.painter.Painter.{Painter}
use Rattle.lines.proofs.PaintedDots.{painted-then, flat_append}
use Rattle.lists.specs.Lists.{pair_at, pairs_at}
use Rattle.lists.proofs.PairLists.{length-pairs-at}

-- ---- a list in two parts
tabulate-append : {A : Type 0} (m n : ℕ) (f : ℕ → A) → tabulate (m + n) f ≡ tabulate m f ++ tabulate n (λ k. f (m + k))
tabulate-append m zero f = let e : m + 0 ≡ m = omega arith in rw (e, append-nil)
tabulate-append m (suc n) f = let e : m + suc n ≡ suc (m + n) = omega arith in rw (e, tabulate-append m n f, append_assoc)

pub pairs-split : (part : List ℕ) (at i n : ℕ) → pairs_at part at (i + n) ≡ pairs_at part at i ++ pairs_at part (at + 16 * i) n
pairs-split part at i n =
    let same : (k : ℕ) → at + 16 * (i + k) ≡ at + 16 * i + 16 * k = omega arith in
    tabulate-append i n (λ k. pair_at part (at + 16 * k)) ∙ rw (tabulate-same n (λ k. pair_at part (at + 16 * (i + k))) (λ k. pair_at part (at + 16 * i + 16 * k)) (λ k l. ap (pair_at part) (same k)))

-- ---- its points painted: the next n pairs after the first i
dots-append : (v : View) (xs ys : List Pair) → pair_dots v (xs ++ ys) ≡ pair_dots v xs ++ pair_dots v ys
unfolding pair_dots
dots-append v xs ys = flat_append (λ (p : Pair). point_dots (point_of v p.x p.y)) xs ys

pub list-next : (p : Painter) (part : List ℕ) (at i n : ℕ) (before between after : List ℕ) (xs : List Pair) (m r : ℕ) → xs ≡ pairs_at part (at + 16 * i) n
    → Painted p before (pair_dots p.view (pairs_at part at i)) m between → Painted p between (pair_dots p.view xs) r after
    → Painted p before (pair_dots p.view (pairs_at part at (i + n))) (m + r) after
list-next p part at i n before between after xs m r e f g =
    rw (pairs-split part at i n, dots-append p.view (pairs_at part at i) (pairs_at part (at + 16 * i) n))
    (painted-then p before between after (pair_dots p.view (pairs_at part at i)) (pair_dots p.view (pairs_at part (at + 16 * i) n)) m r f (rw e at g))

-- at most a dot for each pair
pub few-painted : (v : View) (part : List ℕ) (at n : ℕ) → length (pair_dots v (pairs_at part at n)) ≤ n
few-painted v part at n = omega (arith, pairs-count v (pairs_at part at n), length-pairs-at part at n)

-- ---- sixteen at a time: the block b of a list of n pairs, and how many pairs it has
module _ (n b : ℕ) {blocks : ℕ} (e : blocks ≡ div_ceil n 16) where
  pub block-within : b < blocks → 16 * b < n
  block-within h = omega (arith, e, h)

  pub pairs-before : b < blocks → min (16 * b) n ≡ 16 * b
  pairs-before h = omega (arith, e, h)

  pub pairs-after : b < blocks → min (16 * (b + 1)) n ≡ 16 * b + min (n - 16 * b) 16
  pairs-after h = omega (arith, e, h)

-- that a block is in the list, and what it paints at most
pub ruleset blocks = (block-within, few-painted)
