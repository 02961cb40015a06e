-- What the test of a view says of it, and that inside the bounds of such a view both sums with a half are numbers from 1/4 to 400: so `dot_inside` tests neither end, and finds no NaN.
use Rattle.std.proofs.Common.{◌≡◌, ℕ, ◌-◌, ◌^◌, ◌<◌, ◌≤◌, Option, Some, Bool, true, false, ◌&&◌, sym, ◌∙◌, subst, arith, leb-true}
use lib.Ieee.{Float, eq, lt, to_unsigned}
use borrow.Author.Tests.{not-true}
use Rattle.std.proofs.lemmas.Bool.{and_parts}
use Rattle.floats.specs.Arithmetic.{◌⊕◌, ◌⊖◌, ◌⊗◌, ◌⊘◌}
use Rattle.floats.specs.Truncation.{as_unsigned}
use Rattle.floats.specs.Polyfills.{round_of, 0·25, 0·5}
use Rattle.floats.proofs.Cases.{true-not-false}
use Rattle.floats.proofs.Numbers.{IsNumber, number-equal}
use Rattle.floats.proofs.Monotone.{le-not-above}
use Rattle.floats.proofs.WholePart.{rounded-sum}
use Rattle.walk.specs.declared.clip.Bounds.{Bounds}
use Rattle.view.specs.Point.{outside_bounds, flat_bounds, inside_bounds, scaled_of, point_of, frame_of, regular_view}
use Rattle.view.specs.declared.point.View.{View}
use Rattle.view.specs.declared.point.Frame.{Frame}
use Rattle.view.proofs.ClampIdle.{InDomain, Inside, quotient_of, inside, column_fits, row_fits, clamp-idle-x, clamp-idle-y, column-from, row_from}
use Rattle.view.proofs.ClampIdle.HalfMore.{FromMinusQuarter, sum-from-quarter, sum_number}

-- ---- the test
pub record Regular (v : View) : Type 0 where
  pub domain : InDomain v.bounds
  pub wide : flat_bounds v.bounds ≡ false
  pub some-columns : 1 ≤ v.width
  pub few-columns : v.width ≤ 400
  pub some-rows : 1 ≤ v.height
  pub few-rows : v.height ≤ 400

pub regular : (v : View) → regular_view v ≡ true → Regular v
unfolding regular_view
regular v h =
    let (d, s) = and_parts _ _ h in
    let (a, e) = and_parts _ _ d in
    let (f, n) = and_parts _ _ s in
    let (c, r) = and_parts _ _ n in
    let x = and_parts _ _ a in
    let y = and_parts _ _ e in
    let columns = and_parts _ _ c in
    let rows = and_parts _ _ r in
    record {
      domain = record { left = x.0; right = x.1; bottom = y.0; top = y.1 };
      wide = not-true (flat_bounds v.bounds) f;
      some-columns = leb-true 1 v.width columns.0;
      few-columns = leb-true v.width 400 columns.1;
      some-rows = leb-true 1 v.height rows.0;
      few-rows = leb-true v.height 400 rows.1;
    }

-- ---- the sums of a point inside a regular view
-- each is a number from 1/4 on, and its whole part the dot's column or row
record Sum (q : Float) (n : ℕ) : Type 0 where
  number : IsNumber (q ⊕ 0·5)
  from : lt (q ⊕ 0·5) 0·25 ≡ false
  whole : to_unsigned 64 (q ⊕ 0·5) ≡ n
  few : to_unsigned 64 (q ⊕ 0·5) < 65536

sum : (q : Float) (dots : ℕ) → FromMinusQuarter q → as_unsigned 64 (round_of q) ≤ dots - 1 → 1 ≤ dots → dots ≤ 400 → Sum q (as_unsigned 64 (round_of q))
sum q dots h l some few =
    let e = rounded-sum q dots (less dots few) (below _ dots l some) in
    record { number = sum_number q h; from = sum-from-quarter q h; whole = e; few = small _ _ dots e l few }
  where
    less : (k : ℕ) → k ≤ 400 → k < 2 ^ 16
    less k i = omega arith

    below : (n k : ℕ) → n ≤ k - 1 → 1 ≤ k → n < k
    below n k i j = omega arith

    small : (a n k : ℕ) → a ≡ n → n ≤ k - 1 → k ≤ 400 → a < 65536
    small a n k i j g = omega arith

record Sums (v : View) (x y : Float) : Type 0 where
  column : Sum (quotient_of (x ⊖ v.bounds.left) v.width (v.bounds.right ⊖ v.bounds.left)) (scaled_of (x ⊖ v.bounds.left) v.width (v.bounds.right ⊖ v.bounds.left))
  row : Sum (quotient_of (v.bounds.top ⊖ y) v.height (v.bounds.top ⊖ v.bounds.bottom)) (scaled_of (v.bounds.top ⊖ y) v.height (v.bounds.top ⊖ v.bounds.bottom))
  is_at : point_of v x y ≡ Some (scaled_of (x ⊖ v.bounds.left) v.width (v.bounds.right ⊖ v.bounds.left), scaled_of (v.bounds.top ⊖ y) v.height (v.bounds.top ⊖ v.bounds.bottom))

not-outside : (b : Bounds) (x y : Float) → Inside b x y → outside_bounds b x y ≡ false
unfolding outside_bounds
not-outside b x y i = rw (le-not-above b.left x i.left, le-not-above x b.right i.right, le-not-above b.bottom y i.bottom, le-not-above y b.top i.top)

sums : (v : View) (x y : Float) → regular_view v ≡ true → inside_bounds v.bounds x y ≡ true → Sums v x y
unfolding point_of
sums v x y g h =
    let b = v.bounds in
    let k = regular v g in
    let i = inside b x y h in
    let o = not-outside b x y i in
    record {
      column = subst (λ (n : ℕ). Sum (quotient_of (x ⊖ b.left) v.width (b.right ⊖ b.left)) n) (sym (clamp-idle-x b x y v.width k.domain o k.wide k.some-columns k.few-columns))
          (sum _ v.width (column-from b x y v.width k.domain i k.wide k.some-columns k.few-columns) (column_fits b x y v.width k.domain o k.wide k.some-columns k.few-columns) k.some-columns k.few-columns);
      row = subst (λ (n : ℕ). Sum (quotient_of (b.top ⊖ y) v.height (b.top ⊖ b.bottom)) n) (sym (clamp-idle-y b x y v.height k.domain o k.wide k.some-rows k.few-rows))
          (sum _ v.height (row_from b x y v.height k.domain i k.wide k.some-rows k.few-rows) (row_fits b x y v.height k.domain o k.wide k.some-rows k.few-rows) k.some-rows k.few-rows);
      is_at = rw (o, k.wide);
    }

-- ---- the two ways out of `dot_inside`, whose sums these are
abbrev across : Frame → Float → Float
across f x = (x ⊖ f.view.bounds.left) ⊗ f.across ⊘ f.width ⊕ 0·5

abbrev downwards : Frame → Float → Float
downwards f y = (f.view.bounds.top ⊖ y) ⊗ f.down ⊘ f.height ⊕ 0·5

-- what `whole_inside` ensures
abbrev Whole : ℕ → Float → Type 0
Whole n x = lt x 0·25 ≡ false → to_unsigned 64 x < 65536 → n ≡ to_unsigned 64 x

module _ (f : Frame) (x y : Float) where
  pub dot-found : {column row : ℕ} → Whole column (across f x) → Whole row (downwards f y)
      → (v : View) → f ≡ frame_of v → regular_view v ≡ true → inside_bounds v.bounds x y ≡ true → point_of v x y ≡ Some (column, row)
  unfolding frame_of
  dot-found {column} {row} c r v e g h =
      let s = sums v x y g h in
      let c' : Whole column (across (frame_of v) x) = subst (λ (k : Frame). Whole column (across k x)) e c in
      let r' : Whole row (downwards (frame_of v) y) = subst (λ (k : Frame). Whole row (downwards k y)) e r in
      s.is_at ∙ sym (at (c' s.column.from s.column.few ∙ s.column.whole) (r' s.row.from s.row.few ∙ s.row.whole))
    where
      at : {i j k l : ℕ} → i ≡ k → j ≡ l → ◌≡◌ {A = Option (ℕ × ℕ)} (Some (i, j)) (Some (k, l))
      at d g = rw (d, g)

  pub dot-numbers : {column row : ℕ} → eq (across f x) (across f x) && eq (downwards f y) (downwards f y) ≡ false
      → (v : View) → f ≡ frame_of v → regular_view v ≡ true → inside_bounds v.bounds x y ≡ true → point_of v x y ≡ Some (column, row)
  unfolding frame_of
  dot-numbers t v e g h =
      let s = sums v x y g h in
      let t' : eq (across (frame_of v) x) (across (frame_of v) x) && eq (downwards (frame_of v) y) (downwards (frame_of v) y) ≡ false = subst (λ (k : Frame). eq (across k x) (across k x) && eq (downwards k y) (downwards k y) ≡ false) e t in
      true-not-false (sym (both (number-equal (across (frame_of v) x) s.column.number) (number-equal (downwards (frame_of v) y) s.row.number)) ∙ t')
    where
      both : {a b : Bool} → a ≡ true → b ≡ true → a && b ≡ true
      both d k = rw (d, k)
