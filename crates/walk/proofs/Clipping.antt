-- One law for each way out of clip_outside's loop, what document 01 promises of the number of cuts, and that an accepted line's ends have no side.
use Rattle.std.proofs.Common.{◌≡◌, ℕ, zero, suc, ◌+◌, ◌≤◌, Bool, true, false, cond, not, ◌||◌, Option, Some, None, sym, refl, ap, ◌∙◌, arith}
use lib.Ieee.{Float, lt}
use Rattle.std.proofs.lemmas.Bool.Decides.{nat_tests}
use Rattle.std.proofs.lemmas.Option.{none-some}
use Rattle.walk.specs.declared.clip.Bounds.{Bounds}
use Rattle.walk.specs.declared.clip.Segment.{Segment}
use Rattle.walk.specs.declared.clip.Sides.{Sides}
use Rattle.walk.specs.declared.clip.Clipped.{Clipped}
use Rattle.walk.specs.Clip.{sides_of, first_sides, second_sides, outside, common, cut_of, accepted, no_line, judged, clip_from, clip_of}

-- the answer where the ends have sides and none in common
abbrev otherwise : ℕ → ℕ → Bounds → Segment → Clipped
otherwise zero n b s = no_line n
otherwise (suc left) n b s = clip_from left (n + 1) b (cut_of b s (first_sides b s) (second_sides b s))

clip-judged : (left n : ℕ) (b : Bounds) (s : Segment) → clip_from left n b s ≡ judged b s n (otherwise left n b s)
unfolding clip_from
clip-judged zero n b s = refl
clip-judged (suc left) n b s = refl

-- the loop's locals, with what the calls say of them
module _ (left n : ℕ) (b : Bounds) (s : Segment) (first second : Sides) (e : first ≡ first_sides b s) (f : second ≡ second_sides b s) (p q : Bool) (g : p ≡ outside first) (h : q ≡ outside second) where
  inside : not (outside (first_sides b s) || outside (second_sides b s)) ≡ not (p || q)
  inside = simp (sym e, sym f, g, h)

  pub as_is : not (p || q) ≡ true → clip_from left n b s ≡ accepted s n
  as_is none = clip-judged left n b s ∙ simp (inside, none)

  module _ (some : not (p || q) ≡ false) (t : Bool) (k : t ≡ common first second) where
    shared : common (first_sides b s) (second_sides b s) ≡ t
    shared = simp (sym e, sym f, k)

    pub refused : t ≡ true → clip_from left n b s ≡ no_line n
    refused one = clip-judged left n b s ∙ simp (inside, some, shared, one)

    module _ (apart : t ≡ false) where
      goes_on : clip_from left n b s ≡ otherwise left n b s
      goes_on = clip-judged left n b s ∙ simp (inside, some, shared, apart)

      pub cut_again : (j : ℕ) (next : Segment) → left ≡ suc j → next ≡ cut_of b s first second → clip_from j (n + 1) b next ≡ clip_from left n b s
      cut_again j next l m = rw (m, e, f) (sym (goes_on ∙ ap (λ (l : ℕ). otherwise l n b s) l))

-- no cut left, and an end outside
pub spent : (left n : ℕ) (b : Bounds) (s : Segment) (p q : Bool) → left ≡ 0 → p ≡ outside (first_sides b s) → q ≡ outside (second_sides b s) → p || q ≡ true → clip_from left n b s ≡ no_line n
spent left n b s p q e g h some = rw e (clip-judged 0 n b s ∙ rw (← g, ← h, some) (go (common (first_sides b s) (second_sides b s))))
  where
    go : (y : Bool) → cond y (no_line n) (no_line n) ≡ no_line n
    go true = refl
    go false = refl

-- whether a point has a side, with no need to know which
pub any-side : (b : Bounds) (x y : Float) → lt x b.left || lt b.right x || lt y b.bottom || lt b.top y ≡ outside (sides_of b x y)
unfolding sides_of outside
any-side b x y = grind (arith, nat_tests)

-- ---- 'at most 8' cuts
judged-cuts : (P : ℕ → Type 0) (b : Bounds) (s : Segment) (n : ℕ) (else : Clipped) → P n → P else.cuts → P (judged b s n else).cuts
judged-cuts P b s n else here there = go (not (outside (first_sides b s) || outside (second_sides b s))) (common (first_sides b s) (second_sides b s))
  where
    go : (x y : Bool) → P (cond x (accepted s n) (cond y (no_line n) else)).cuts
    go true y = here
    go false true = here
    go false false = there

cuts-from : (left n : ℕ) (b : Bounds) (s : Segment) → (n ≤ (clip_from left n b s).cuts) × ((clip_from left n b s).cuts ≤ n + left)
unfolding clip_from
cuts-from zero n b s = judged-cuts (λ (m : ℕ). (n ≤ m) × (m ≤ n + 0)) b s n (no_line n) (omega arith, omega arith) (omega arith, omega arith)
cuts-from (suc left) n b s =
    let next = clip_from left (n + 1) b (cut_of b s (first_sides b s) (second_sides b s)) in
    let h = cuts-from left (n + 1) b (cut_of b s (first_sides b s) (second_sides b s)) in
    judged-cuts (λ (m : ℕ). (n ≤ m) × (m ≤ n + suc left)) b s n next (omega arith, omega arith) (more next.cuts h.0, most next.cuts h.1)
  where
    more : (m : ℕ) → n + 1 ≤ m → n ≤ m
    more m h = omega arith

    most : (m : ℕ) → m ≤ n + 1 + left → m ≤ n + suc left
    most m h = omega arith

pub at-most-eight-cuts : (b : Bounds) (s : Segment) → (clip_of b s).cuts ≤ 8
at-most-eight-cuts b s = (cuts-from 8 0 b s).1

-- ends without a side are accepted unchanged
pub inside-accepted : (b : Bounds) (s : Segment) → not (outside (first_sides b s) || outside (second_sides b s)) ≡ true → clip_of b s ≡ accepted s 0
inside-accepted b s none = as_is 8 0 b s (first_sides b s) (second_sides b s) refl refl (outside (first_sides b s)) (outside (second_sides b s)) refl refl none

-- 'A clip that says "none" before its first cut, though the ends have no side in common, contradicts this rule'
pub uncut-none-common : (b : Bounds) (s : Segment) → clip_of b s ≡ no_line 0 → common (first_sides b s) (second_sides b s) ≡ true
uncut-none-common b s h = go (not (outside first || outside second)) refl (common first second) refl
  where
    first : Sides
    first = first_sides b s

    second : Sides
    second = second_sides b s

    none-cut : (clip_of b s).cuts ≡ 0
    none-cut = ap (λ (c : Clipped). c.cuts) h

    go : (x : Bool) → not (outside first || outside second) ≡ x → (y : Bool) → common first second ≡ y → y ≡ true
    go x p true q = refl
    go true p false q = absurd (none-some s (ap (λ (c : Clipped). c.line) (sym h ∙ inside-accepted b s p)))
    go false p false q =
        let next = cut_of b s first second in
        let e : clip_from 7 1 b next ≡ clip_of b s =
        cut_again 8 0 b s first second refl refl (outside first) (outside second) refl refl p (common first second) refl q 7 next refl refl in
        absurd (omega (arith, (cuts-from 7 1 b next).0, ap (λ (c : Clipped). c.cuts) e, none-cut))

-- ---- an accepted line's ends have no side
abbrev EndsIn : Bounds → Option Segment → Type 0
EndsIn b (Some t) = (outside (first_sides b t) ≡ false) × (outside (second_sides b t) ≡ false)
EndsIn b None = Unit {0}

judged-ends : (b : Bounds) (s : Segment) (n : ℕ) (else : Clipped) → EndsIn b else.line → EndsIn b (judged b s n else).line
judged-ends b s n else there = go (outside (first_sides b s)) refl (outside (second_sides b s)) refl (common (first_sides b s) (second_sides b s))
  where
    go : (p : Bool) → outside (first_sides b s) ≡ p → (q : Bool) → outside (second_sides b s) ≡ q → (y : Bool) → EndsIn b (cond (not (p || q)) (accepted s n) (cond y (no_line n) else)).line
    go false e false f y = (e, f)
    go false e true f true = tt
    go false e true f false = there
    go true e q f true = tt
    go true e q f false = there

ends-from : (left n : ℕ) (b : Bounds) (s : Segment) → EndsIn b (clip_from left n b s).line
unfolding clip_from
ends-from zero n b s = judged-ends b s n (no_line n) tt
ends-from (suc left) n b s =
    let next = cut_of b s (first_sides b s) (second_sides b s) in
    judged-ends b s n (clip_from left (n + 1) b next) (ends-from left (n + 1) b next)

pub accepted-ends : (b : Bounds) (s : Segment) {t : Segment} → (clip_of b s).line ≡ Some t → (outside (first_sides b t) ≡ false) × (outside (second_sides b t) ≡ false)
accepted-ends b s e = rw e at (ends-from 8 0 b s)

-- for `clip_line` and the ways out of `clip_outside`
pub ruleset clipping = (inside-accepted, as_is, refused, spent)
