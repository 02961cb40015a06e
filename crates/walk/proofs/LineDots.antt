-- Where the dots of a line lie: how many they are, the first and the last are its ends, and each lies between them.
use Rattle.std.proofs.Common.{◌≡◌, ℕ, zero, suc, ◌+◌, ◌<◌, ◌≤◌, min, max, Bool, true, false, cond, length, sym, refl, ◌∙◌, subst, add-zero, le_of_lt, mul-le-mul_right, arith, ltb-false, ltb-true}
use native.Mathlib.Nat.{min_comm, max_comm}
use Rattle.std.proofs.lemmas.Bool.Decides.{nat_tests}
use Rattle.walk.specs.declared.bresenham.Ends.{Ends}
use Rattle.walk.specs.declared.bresenham.Dot.{Dot}
use Rattle.walk.specs.Line.{apart, dx, dy, shallow, starts_second, exchanged, from_start, offset_after, toward, dot_after, dot_count, line_dots}
use Rattle.walk.proofs.Offset.{offset-start, offset-end, offset-le}
use Rattle.walk.proofs.Tabulated.{length-tabulate}
use Rattle.walk.proofs.ClosedFormula.{same_length}

pub length-line : (e : Ends) → length (line_dots e) ≡ dot_count e
unfolding line_dots
length-line e = length-tabulate (dot_count e) (dot_after (from_start e))

-- ---- from a toward b
toward-none : (a b : ℕ) → toward a b 0 ≡ a
toward-none a b = grind (arith, nat_tests)

toward-all : (a b : ℕ) → toward a b (apart a b) ≡ b
toward-all a b = grind (arith, nat_tests)

toward-between : (a b o : ℕ) → o ≤ apart a b → (min a b ≤ toward a b o) × (toward a b o ≤ max a b)
toward-between a b o h = (grind (arith, nat_tests), grind (arith, nat_tests))

-- ---- the end where a line starts
pub record Forward (e : Ends) : Type 0 where
  pub level : shallow e ≡ true → e.x1 ≤ e.x2
  pub upright : shallow e ≡ false → e.y1 ≤ e.y2

exchanged-shallow : (e : Ends) → shallow (exchanged e) ≡ shallow e
exchanged-shallow e = rw (apart-comm e.y2 e.y1, apart-comm e.x2 e.x1)
  where
    apart-comm : (a b : ℕ) → apart a b ≡ apart b a
    apart-comm a b = omega arith

pub forward : (e : Ends) → Forward (from_start e)
unfolding from_start starts_second
forward e = go (starts_second e) refl
  where
    go : (t : Bool) → starts_second e ≡ t → Forward (cond t (exchanged e) e)
    go true t = record {
      level = λ h. le_of_lt (ltb-true e.x2 e.x1 (rw (sym (exchanged-shallow e) ∙ h) at t));
      upright = λ h. le_of_lt (ltb-true e.y2 e.y1 (rw (sym (exchanged-shallow e) ∙ h) at t));
    }
    go false t = record { level = λ h. ltb-false e.x2 e.x1 (rw h at t); upright = λ h. ltb-false e.y2 e.y1 (rw h at t) }

-- ---- a line whose first end is its start
abbrev pub first_end : Ends → Dot
first_end e = record { column = e.x1; row = e.y1 }

abbrev pub second_end : Ends → Dot
second_end e = record { column = e.x2; row = e.y2 }

-- between the ends' columns and rows
pub record Within (e : Ends) (d : Dot) : Type 0 where
  pub left : min e.x1 e.x2 ≤ d.column
  pub right : d.column ≤ max e.x1 e.x2
  pub above : min e.y1 e.y2 ≤ d.row
  pub below : d.row ≤ max e.y1 e.y2

-- by the two ways a line may run
module _ (P : Dot → Type 0) (e : Ends) (k : ℕ) where
  pub by-direction : (shallow e ≡ true → P (record { column = e.x1 + k; row = toward e.y1 e.y2 (offset_after (dx e) (dy e) k) }))
      → (shallow e ≡ false → P (record { column = toward e.x1 e.x2 (offset_after (dy e) (dx e) k); row = e.y1 + k })) → P (dot_after e k)
  unfolding dot_after
  by-direction level upright = go (shallow e) refl
    where
      go : (t : Bool) → shallow e ≡ t → P (cond t (record { column = e.x1 + k; row = toward e.y1 e.y2 (offset_after (dx e) (dy e) k) }) (record { column = toward e.x1 e.x2 (offset_after (dy e) (dx e) k); row = e.y1 + k }))
      go true t = level t
      go false t = upright t

along-all : (a b : ℕ) → a ≤ b → a + apart a b ≡ b
along-all a b h = omega arith

along-between : (a b k : ℕ) → a ≤ b → k ≤ apart a b → (min a b ≤ a + k) × (a + k ≤ max a b)
along-between a b k h g = (omega arith, omega arith)

pub larger-left : (a b : ℕ) → b < a → max a b ≡ a
larger-left a b h = omega arith

pub larger-right : (a b : ℕ) → a ≤ b → max a b ≡ b
larger-right a b h = omega arith

offset-all : (long short : ℕ) → short ≤ long → offset_after long short long ≡ short
offset-all zero short low = offset-start 0 short ∙ none short low
  where
    none : (n : ℕ) → n ≤ 0 → 0 ≡ n
    none n h = omega arith
offset-all (suc l) short low = offset-end (suc l) short (omega arith) low

pub offset-short : (long short k : ℕ) → short ≤ long → k ≤ long → offset_after long short k ≤ short
offset-short long short k low h = offset-le long short k short low (mul-le-mul_right short h)

first-is : (e : Ends) → dot_after e 0 ≡ first_end e
first-is e =
    by-direction (λ d. d ≡ first_end e) e 0
    (λ t. rw (offset-start (dx e) (dy e), toward-none e.y1 e.y2, add-zero))
    (λ t. rw (offset-start (dy e) (dx e), toward-none e.x1 e.x2, add-zero))

module _ (e : Ends) (f : Forward e) where
  last-is : dot_after e (max (dx e) (dy e)) ≡ second_end e
  last-is =
      by-direction (λ d. d ≡ second_end e) e (max (dx e) (dy e))
      (λ t.
      let h = ltb-true (dy e) (dx e) t in
      rw (larger-left (dx e) (dy e) h, offset-all (dx e) (dy e) (le_of_lt h), toward-all e.y1 e.y2, along-all e.x1 e.x2 (f.level t)))
      (λ t.
      let h = ltb-false (dy e) (dx e) t in
      rw (larger-right (dx e) (dy e) h, offset-all (dy e) (dx e) h, toward-all e.x1 e.x2, along-all e.y1 e.y2 (f.upright t)))

  is_within : (k : ℕ) → k ≤ max (dx e) (dy e) → Within e (dot_after e k)
  is_within k h =
      by-direction (λ d. Within e d) e k
      (λ t.
      let g = ltb-true (dy e) (dx e) t in
      let i : k ≤ dx e = subst (λ (n : ℕ). k ≤ n) (larger-left (dx e) (dy e) g) h in
      let c = along-between e.x1 e.x2 k (f.level t) i in
      let r = toward-between e.y1 e.y2 (offset_after (dx e) (dy e) k) (offset-short (dx e) (dy e) k (le_of_lt g) i) in
      record { left = c.0; right = c.1; above = r.0; below = r.1 })
      (λ t.
      let g = ltb-false (dy e) (dx e) t in
      let i : k ≤ dy e = subst (λ (n : ℕ). k ≤ n) (larger-right (dx e) (dy e) g) h in
      let r = along-between e.y1 e.y2 k (f.upright t) i in
      let c = toward-between e.x1 e.x2 (offset_after (dy e) (dx e) k) (offset-short (dy e) (dx e) k g i) in
      record { left = c.0; right = c.1; above = r.0; below = r.1 })

-- ---- any line
pub first-dot : (e : Ends) → dot_after (from_start e) 0 ≡ first_end (from_start e)
first-dot e = first-is (from_start e)

pub last-dot : (e : Ends) → dot_after (from_start e) (max (dx e) (dy e)) ≡ second_end (from_start e)
last-dot e = rw (sym (same_length e)) (last-is (from_start e) (forward e))

-- either way round
within-exchanged : (e : Ends) (d : Dot) → Within (from_start e) d → Within e d
unfolding from_start
within-exchanged e d = go (starts_second e)
  where
    go : (t : Bool) → Within (cond t (exchanged e) e) d → Within e d
    go true w = record {
      left = subst (λ (n : ℕ). n ≤ d.column) (min_comm e.x2 e.x1) w.left;
      right = subst (λ (n : ℕ). d.column ≤ n) (max_comm e.x2 e.x1) w.right;
      above = subst (λ (n : ℕ). n ≤ d.row) (min_comm e.y2 e.y1) w.above;
      below = subst (λ (n : ℕ). d.row ≤ n) (max_comm e.y2 e.y1) w.below;
    }
    go false w = w

pub dot-within : (e : Ends) (k : ℕ) → k ≤ max (dx e) (dy e) → Within e (dot_after (from_start e) k)
dot-within e k h = within-exchanged e (dot_after (from_start e) k) (is_within (from_start e) (forward e) k (subst (λ (n : ℕ). k ≤ n) (sym (same_length e)) h))
