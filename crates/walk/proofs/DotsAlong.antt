-- A way's dots along it are those that it has after each number of steps, of a walk and of a course.
use Rattle.std.proofs.Common.{◌≡◌, ℕ, zero, suc, List, ◌∷◌, refl, ap, ◌∙◌, sym}
use Rattle.walk.specs.Tabulate.{tabulate}
use Rattle.walk.specs.Along.{dots_along}
use Rattle.walk.specs.Walk.{count_of, dot_of, step_of, steps, walk_dots}
use Rattle.walk.specs.Course.{course_dot, next_course, course_after, course_dots}
use Rattle.walk.specs.declared.bresenham.Walk.{Walk}
use Rattle.walk.specs.declared.bresenham.Dot.{Dot}
use Rattle.walk.specs.declared.course.Course.{Course}
use Rattle.walk.specs.declared.route.Dots.{Dots}
use Rattle.std.specs.Iterator.{YieldsFirst}
use Rattle.std.proofs.lemmas.Iterator.{YieldsList}
use Rattle.std.proofs.lemmas.Iterator.Consumers.{YieldsList-from_first}
use Rattle.walk.proofs.Tabulated.{tabulate-first, tabulate-same}

module _ {S : Type 0} (dot : S → Dot) (next : S → S) (after : ℕ → S → S) (none : (s : S) → after zero s ≡ s) (more : (k : ℕ) (s : S) → after (suc k) s ≡ next (after k s)) where
  after-first : (k : ℕ) (s : S) → after (suc k) s ≡ after k (next s)
  after-first zero s = more zero s ∙ ap next (none s) ∙ sym (none (next s))
  after-first (suc k) s = more (suc k) s ∙ ap next (after-first k s) ∙ sym (more k (next s))

  along-after : (n : ℕ) (s : S) → dots_along dot next s n ≡ tabulate n (λ k. dot (after k s))
  along-after zero s = refl
  along-after (suc n) s =
      ap (λ (ds : List Dot). dot s ∷ ds) (along-after n (next s) ∙ tabulate-same n (λ k. dot (after k (next s))) (λ k. dot (after (suc k) s)) (λ k h. ap dot (sym (after-first k s))))
      ∙ ap (λ (d : Dot). d ∷ tabulate n (λ k. dot (after (suc k) s))) (ap dot (sym (none s)))
      ∙ sym (tabulate-first n (λ k. dot (after k s)))

walk-along : (w : Walk) (n : ℕ) → dots_along dot_of step_of w n ≡ walk_dots w n
walk-along w n = along-after dot_of step_of steps (λ s. refl) (λ k s. refl) n w

course-along : (c : Course) (n : ℕ) → dots_along course_dot next_course c n ≡ course_dots c n
course-along c n = along-after course_dot next_course course_after (λ s. refl) (λ k s. refl) n c

-- ---- what a `for` over the dots of a walk or a course goes over
pub walk-yields : (w : Walk) (s : Dots Walk) → s ≡ record { at = w; left = count_of w }
    → YieldsList (YieldsFirst (λ (t : Dots Walk). dots_along dot_of step_of t.at t.left)) (λ (d : Dot). d) s (walk_dots w (count_of w))
walk-yields w s e = YieldsList-from_first (λ (d : Dot). d) (λ (t : Dots Walk). dots_along dot_of step_of t.at t.left) (walk_dots w (count_of w)) (rw e (walk-along w (count_of w)))

pub course-yields : (c : Course) (s : Dots Course) → s ≡ record { at = c; left = c.count }
    → YieldsList (YieldsFirst (λ (t : Dots Course). dots_along course_dot next_course t.at t.left)) (λ (d : Dot). d) s (course_dots c c.count)
course-yields c s e = YieldsList-from_first (λ (d : Dot). d) (λ (t : Dots Course). dots_along course_dot next_course t.at t.left) (course_dots c c.count) (rw e (course-along c c.count))
