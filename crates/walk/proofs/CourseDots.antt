-- The course from `new` gives the dots of the closed formula: each direction is its start and k moves, modulo 2 ^ 64. One of the two goes a whole dot a move.
use Rattle.std.proofs.Common.{◌≡◌, ℕ, zero, suc, ◌+◌, ◌*◌, ◌/◌, ◌%◌, ◌^◌, ◌<◌, ◌≤◌, max, Bool, true, false, cond, sym, refl, ap, ◌∙◌, subst, arith, ltb-false, ltb-true, le-ltb}
use native.Mathlib.Nat.{mod-add-mod}
use Rattle.std.proofs.lemmas.Bool.Decides.{nat_tests}
use Rattle.walk.specs.declared.bresenham.Ends.{Ends}
use Rattle.walk.specs.declared.bresenham.Dot.{Dot}
use Rattle.walk.specs.declared.course.Course.{Course}
use Rattle.walk.specs.Line.{apart, dx, dy, shallow, starts_second, exchanged, from_start, offset_after, toward, dot_after, dot_count, line_dots}
use Rattle.walk.specs.Walk.{Fits16}
use Rattle.walk.specs.Course.{place_of, move_of, course_from, course_of, course_dot, next_course, course_after, course_dots, CoursesLine}
use Rattle.walk.proofs.Offset.{offset-whole}
use Rattle.walk.proofs.Tabulated.{tabulate-same}
use Rattle.walk.proofs.ClosedFormula.{same_length}
use Rattle.walk.proofs.LineDots.{Forward, forward, Within, dot-within, by-direction, larger-left, larger-right}
use Rattle.walk.proofs.FixedPoint.{toward-fixed, move-one, one-move}

-- ---- k steps of a course
pub moved-next : (place move k : ℕ) → ((place + k * move) % 2 ^ 64 + move) % 2 ^ 64 ≡ (place + suc k * move) % 2 ^ 64
moved-next place move k = mod-add-mod (place + k * move) (2 ^ 64) move ∙ ap (λ (n : ℕ). n % 2 ^ 64) (omega arith)

pub after_is : (c : Course) → c.column < 2 ^ 64 → c.row < 2 ^ 64 → (k : ℕ)
    → course_after k c ≡ record { count = c.count; column = (c.column + k * c.right) % 2 ^ 64; row = (c.row + k * c.down) % 2 ^ 64; right = c.right; down = c.down }
after_is c f g zero =
    let a : (c.column + 0 * c.right) % 2 ^ 64 ≡ c.column = omega arith in
    let b : (c.row + 0 * c.down) % 2 ^ 64 ≡ c.row = omega arith in
    rw (a, b)
after_is c f g (suc k) = ap next_course (after_is c f g k) ∙ rw (moved-next c.column c.right k, moved-next c.row c.down k)

place-fits : (a b : ℕ) → a < 2 ^ 16 → place_of a b < 2 ^ 64
unfolding place_of
place-fits a b h = grind (arith, nat_tests)

place-whole : (a b : ℕ) → place_of a b / 2 ^ 48 ≡ a
unfolding place_of
place-whole a b = grind (arith, nat_tests)

first-le : (a b : ℕ) → a ≤ max a b
first-le a b = omega arith

second-le : (a b : ℕ) → b ≤ max a b
second-le a b = omega arith

below : (k n : ℕ) → k < n + 1 → k ≤ n
below k n h = omega arith

-- after k steps the column, where its move is a whole dot, or else the row, is k dots on
abbrev pub WholeAt : Course → ℕ → Type 0
WholeAt c k =
    (c.right ≡ 2 ^ 48 → (course_dot (course_after k c)).column ≡ c.column / 2 ^ 48 + k)
    × ((c.right ≡ 2 ^ 48 → ⊥) → (course_dot (course_after k c)).row ≡ c.row / 2 ^ 48 + k)

-- ---- a line whose first end is its start
module _ (e : Ends) (f : Fits16 e) (w : Forward e) (k : ℕ) (on : k ≤ max (dx e) (dy e)) where
  abbrev long : ℕ
  long = max (dx e) (dy e)

  abbrev both : ℕ → Dot
  both n = record { column = toward e.x1 e.x2 (offset_after n (dx e) k); row = toward e.y1 e.y2 (offset_after n (dy e) k) }

  long-fits : long < 2 ^ 16
  long-fits = larger (apart_fits e.x1 e.x2 f.x1 f.x2) (apart_fits e.y1 e.y2 f.y1 f.y2)
    where
      apart_fits : (a b : ℕ) → a < 2 ^ 16 → b < 2 ^ 16 → apart a b < 2 ^ 16
      apart_fits a b h g = omega arith

      larger : {a b : ℕ} → a < 2 ^ 16 → b < 2 ^ 16 → max a b < 2 ^ 16
      larger h g = omega arith

  dot-fixed : course_dot (course_after k (course_from e)) ≡ both long
  dot-fixed =
      ap course_dot (after_is (course_from e) (place-fits e.x1 e.x2 f.x1) (place-fits e.y1 e.y2 f.y1) k)
      ∙ rw (
        toward-fixed long e.x1 e.x2 k long-fits f.x1 f.x2 (first-le (dx e) (dy e)) on,
        toward-fixed long e.y1 e.y2 k long-fits f.y1 f.y2 (second-le (dx e) (dy e)) on,
      )

  -- in the longer direction each step is one dot
  whole : (a b : ℕ) → a ≤ b → k ≤ apart a b → toward a b (offset_after (apart a b) (apart a b) k) ≡ a + k
  whole a b h g = rw (offset-whole (apart a b) k g, le-ltb b a h)

  both-after : both long ≡ dot_after e k
  both-after =
      by-direction (λ d. both long ≡ d) e k
      (λ t.
      let l = larger-left (dx e) (dy e) (ltb-true (dy e) (dx e) t) in
      rw (l, whole e.x1 e.x2 (w.level t) (subst (λ (n : ℕ). k ≤ n) l on)))
      (λ t.
      let l = larger-right (dx e) (dy e) (ltb-false (dy e) (dx e) t) in
      rw (l, whole e.y1 e.y2 (w.upright t) (subst (λ (n : ℕ). k ≤ n) l on)))

  -- the way of whole moves: the column where it has them, else the row
  whole-steps : WholeAt (course_from e) k
  whole-steps = (column-whole, row-whole)
    where
      one_way : (a b : ℕ) → apart a b ≤ long → move_of long a b ≡ 2 ^ 48 → toward a b (offset_after long (apart a b) k) ≡ place_of a b / 2 ^ 48 + k
      one_way a b h m =
          let g = move-one long a b long-fits h m in
          rw (place-whole a b, sym g.1) (whole a b g.0 (subst (λ (n : ℕ). k ≤ n) (sym g.1) on))

      column-whole : (course_from e).right ≡ 2 ^ 48 → (course_dot (course_after k (course_from e))).column ≡ (course_from e).column / 2 ^ 48 + k
      column-whole m = ap (λ (d : Dot). d.column) dot-fixed ∙ one_way e.x1 e.x2 (first-le (dx e) (dy e)) m

      row-moves : (t : Bool) → shallow e ≡ t → ((course_from e).right ≡ 2 ^ 48 → ⊥) → (course_from e).down ≡ 2 ^ 48
      row-moves true t m = absurd (m (one-move long e.x1 e.x2 (w.level t) (sym (larger-left (dx e) (dy e) (ltb-true (dy e) (dx e) t)))))
      row-moves false t m = one-move long e.y1 e.y2 (w.upright t) (sym (larger-right (dx e) (dy e) (ltb-false (dy e) (dx e) t)))

      row-whole : ((course_from e).right ≡ 2 ^ 48 → ⊥) → (course_dot (course_after k (course_from e))).row ≡ (course_from e).row / 2 ^ 48 + k
      row-whole m = ap (λ (d : Dot). d.row) dot-fixed ∙ one_way e.y1 e.y2 (second-le (dx e) (dy e)) (row-moves (shallow e) refl m)

-- ---- a line either way round
fits-start : (e : Ends) → Fits16 e → Fits16 (from_start e)
unfolding from_start
fits-start e f = go (starts_second e)
  where
    go : (t : Bool) → Fits16 (cond t (exchanged e) e)
    go true = record { x1 = f.x2; y1 = f.y2; x2 = f.x1; y2 = f.y1 }
    go false = f

-- the dot after k steps
pub course-dot : (e : Ends) → Fits16 e → (k : ℕ) → k ≤ max (dx e) (dy e) → course_dot (course_after k (course_of e)) ≡ dot_after (from_start e) k
unfolding course_of
course-dot e f k on =
    let s = from_start e in
    let h : k ≤ max (dx s) (dy s) = subst (λ (n : ℕ). k ≤ n) (sym (same_length e)) on in
    dot-fixed s (fits-start e f) (forward e) k h ∙ both-after s (fits-start e f) (forward e) k h

-- and the way that it goes by whole dots
moves-whole : (e : Ends) → Fits16 e → (k : ℕ) → k ≤ max (dx e) (dy e) → WholeAt (course_of e) k
unfolding course_of
moves-whole e f k on =
    let s = from_start e in
    whole-steps s (fits-start e f) (forward e) k (subst (λ (n : ℕ). k ≤ n) (sym (same_length e)) on)

pub course-count : (e : Ends) → (course_of e).count ≡ dot_count e
unfolding course_of
course-count e = rw (same_length e)

pub courses-line : CoursesLine
unfolding line_dots
courses-line e f = (
  course-count e,
  ap (course_dots (course_of e)) (course-count e)
      ∙ tabulate-same (dot_count e) (λ k. course_dot (course_after k (course_of e))) (dot_after (from_start e)) (λ k h. course-dot e f k (below k (max (dx e) (dy e)) h)),
)

-- ---- for a loop over a course: a dot on the way, the way of whole dots, and the whole line
pub course-within : (e : Ends) → Fits16 e → (c₀ : Course) (k : ℕ) → c₀ ≡ course_of e → k < c₀.count → Within e (course_dot (course_after k c₀))
course-within e f c₀ k w h =
    let on = below k (max (dx e) (dy e)) (rw (w, course-count e) at h) in
    rw (w, course-dot e f k on) (dot-within e k on)

pub course-whole : (e : Ends) → Fits16 e → (c₀ : Course) (k : ℕ) → c₀ ≡ course_of e → k < c₀.count → WholeAt c₀ k
course-whole e f c₀ k w h = rw w (moves-whole e f k (below k (max (dx e) (dy e)) (rw (w, course-count e) at h)))

pub course-over : (e : Ends) → Fits16 e → (c₀ : Course) (n k : ℕ) → c₀ ≡ course_of e → n ≡ c₀.count → k ≡ n → course_dots c₀ k ≡ line_dots e
course-over e f c₀ n k w c h = rw (h, c, w) (courses-line e f).1
