-- The walk from `new` gives the dots of the closed formula: after each step its offset is the formula's, and its decision value says on which side of the next half the line lies.
use Rattle.std.proofs.Common.{◌≡◌, ℕ, zero, suc, ◌+◌, ◌-◌, ◌*◌, ◌^◌, ◌<◌, ◌≤◌, min, max, Bool, true, false, cond, not, ltb, ℤ, pos, ◌+ℤ◌, ◌-ℤ◌, sym, refl, ap, ◌∙◌, subst, mul_comm, mul-le-mul_left, mul-zero, zero-mul, mul-one, mul-add, add-one, arith, ltb-false, ltb-true, lt-ltb}
use lib.Signed.{lt_z}
use Rattle.walk.specs.declared.bresenham.Ends.{Ends}
use Rattle.walk.specs.declared.bresenham.Walk.{Walk}
use Rattle.walk.specs.Tabulate.{tabulate}
use Rattle.walk.specs.Line.{apart, dx, dy, shallow, starts_second, exchanged, from_start, offset_after, dot_after, dot_count, line_dots}
use Rattle.walk.specs.Walk.{first_decision, walk_from, walk_of, dot_of, small, on_way, next_decision, next_offset, step_of, steps, walk_dots, WalksLine}
use Rattle.walk.proofs.Decision.{Less, less-raised, less-lowered, less_as, less-above, less-not-above, less-mag, mag-small}
use Rattle.walk.proofs.Offset.{offset-start, next, offset-above, offset-below, offset-steps, offset-stays, offset-le}
use Rattle.walk.proofs.Tabulated.{tabulate-same}

-- ---- the walk after k steps
module _ (x y long short : ℕ) (steep back : Bool) where
  abbrev reached : ℕ → ℤ → Walk
  reached k z = record { x = x; y = y; long = long; short = short; steep = steep; back = back; at = k; offset = offset_after long short k; d = z }

  -- the decision value is twice the rise after the next step less the half that it must pass for the offset to step
  abbrev Decides : ℕ → ℤ → Type 0
  Decides k z = Less z (2 * (k * short) + 2 * short) (long + 2 * (long * offset_after long short k))

  module _ (low : short ≤ long) (fits : long ≤ 65535) (k : ℕ) (on : k < long) (z : ℤ) (here : Decides k z) where
    some : 0 < long
    some = omega arith

    decision-small : small z ≡ true
    decision-small =
        mag-small z
        (less-mag z (2 * (k * short) + 2 * short) (long + 2 * (long * offset_after long short k)) (2 ^ 20) here
        (near-above (long * offset_after long short k) (k * short) (offset-below long short some low k))
        (near-below (long * offset_after long short k) (k * short) (offset-above long short some low k)))
      where
        near-above : (lo ks : ℕ) → 2 * ks + long - 1 < 2 * lo + 2 * long → 2 * ks + 2 * short < long + 2 * lo + 1048576
        near-above lo ks h = omega arith

        near-below : (lo ks : ℕ) → 2 * lo ≤ 2 * ks + long - 1 → long + 2 * lo < 2 * ks + 2 * short + 1048576
        near-below lo ks h = omega arith

    offset-room : offset_after long short k < 65535
    offset-room = within (offset_after long short k) (offset-le long short k k low (subst (λ (n : ℕ). k * short ≤ n) (mul_comm k long) (mul-le-mul_left k low)))
      where
        within : (o : ℕ) → o ≤ k → o < 65535
        within o a = omega arith

    on-way : on_way (reached k z) ≡ true
    on-way = rw (decision-small, lt-ltb k long on, lt-ltb (offset_after long short k) 65535 offset-room)

    -- one step: above 0 the offset steps too, and else it stays
    step-reached : (step_of (reached k z) ≡ reached (k + 1) (next_decision long short z)) × Decides (k + 1) (next_decision long short z)
    unfolding step_of next_offset next_decision
    step-reached = go (lt_z (pos 0) z) refl
      where
        o : ℕ
        o = offset_after long short k

        p : ℕ
        p = 2 * (k * short) + 2 * short

        q : ℕ
        q = long + 2 * (long * o)

        go : (t : Bool) → lt_z (pos 0) z ≡ t → (step_of (reached k z) ≡ reached (k + 1) (next_decision long short z)) × Decides (k + 1) (next_decision long short z)
        go true t =
            let up : offset_after long short (k + 1) ≡ o + 1 = offset-steps long short some low k o refl (less-above z p q here t) in (
              rw (on-way, t, up),
              rw (t, up)
                  (less_as (z -ℤ pos (2 * long) +ℤ pos (2 * short)) (p + 2 * short) (q + 2 * long) (2 * ((k + 1) * short) + 2 * short) (long + 2 * (long * (o + 1)))
                  (less-raised (z -ℤ pos (2 * long)) (2 * short) p (q + 2 * long) (less-lowered z (2 * long) p q here))
                  (omega (arith, next long short some low k))
                  (omega (arith, mul-add long o 1, mul-one long))),
            )
        go false t =
            let level : offset_after long short (k + 1) ≡ o = offset-stays long short some low k o refl (less-not-above z p q here t) in (
              rw (on-way, t, level),
              rw (t, level)
                  (less_as (z +ℤ pos (2 * short)) (p + 2 * short) q (2 * ((k + 1) * short) + 2 * short) q (less-raised z (2 * short) p q here) (omega (arith, next long short some low k)) refl),
            )

  start-decides : Decides 0 (first_decision long short)
  start-decides =
      less_as (first_decision long short) (2 * short) (0 + long) (2 * (0 * short) + 2 * short) (long + 2 * (long * offset_after long short 0))
      (less-lowered (pos (2 * short)) long (2 * short) 0 (omega arith))
      (omega (arith, zero-mul short))
      (rw (offset-start long short) (omega (arith, mul-zero long)))

  -- k steps from the start
  all-reached : short ≤ long → long ≤ 65535 → (w : Walk) → w ≡ reached 0 (first_decision long short) → (k : ℕ) → k ≤ long → (z : ℤ) × (steps k w ≡ reached k z) × Decides k z
  all-reached low fits w e zero h = (first_decision long short, e, start-decides)
  all-reached low fits w e (suc k) h =
      let r = all-reached low fits w e k (omega arith) in
      let s = step-reached low fits k (omega arith) r.0 r.2 in (
        next_decision long short r.0,
        ap step_of r.1 ∙ rw add-one at s.0,
        rw add-one at s.1,
      )

-- ---- the dots of a line whose first end is its start
module _ (e : Ends) where
  abbrev at : ℕ → ℤ → Walk
  at = reached e.x1 e.y1 (max (dx e) (dy e)) (min (dx e) (dy e)) (not (shallow e)) (cond (shallow e) (ltb e.y2 e.y1) (ltb e.x2 e.x1))

  from-reached : walk_from e ≡ at 0 (first_decision (max (dx e) (dy e)) (min (dx e) (dy e)))
  from-reached = rw (offset-start (max (dx e) (dy e)) (min (dx e) (dy e)))

  dot-reached : (k : ℕ) (z : ℤ) → dot_of (at k z) ≡ dot_after e k
  unfolding dot_of dot_after
  dot-reached k z = go (shallow e) refl
    where
      go : (t : Bool) → shallow e ≡ t → dot_of (at k z) ≡ dot_after e k
      go true t =
          let h = ltb-true (dy e) (dx e) t in
          let l : max (dx e) (dy e) ≡ dx e = omega arith in
          let m : min (dx e) (dy e) ≡ dy e = omega arith in
          rw (t, l, m)
      go false t =
          let h = ltb-false (dy e) (dx e) t in
          let l : max (dx e) (dy e) ≡ dy e = omega arith in
          let m : min (dx e) (dy e) ≡ dx e = omega arith in
          rw (t, l, m)

  from-dots : max (dx e) (dy e) ≤ 65535 → walk_dots (walk_from e) (dot_count e) ≡ tabulate (dot_count e) (dot_after e)
  from-dots fits = tabulate-same (dot_count e) (λ k. dot_of (steps k (walk_from e))) (dot_after e) (λ k h. dot_at_lem k (below k (max (dx e) (dy e)) h))
    where
      below : (k n : ℕ) → k < n + 1 → k ≤ n
      below k n h = omega arith

      least : (a b : ℕ) → min a b ≤ max a b
      least a b = omega arith

      dot_at_lem : (k : ℕ) → k ≤ max (dx e) (dy e) → dot_of (steps k (walk_from e)) ≡ dot_after e k
      dot_at_lem k h =
          let r = all-reached e.x1 e.y1 (max (dx e) (dy e)) (min (dx e) (dy e)) (not (shallow e)) (cond (shallow e) (ltb e.y2 e.y1) (ltb e.x2 e.x1)) (least (dx e) (dy e)) fits (walk_from e) from-reached k h in
          rw r.1 (dot-reached k r.0)

-- ---- a line either way round
pub same_length : (e : Ends) → max (dx (from_start e)) (dy (from_start e)) ≡ max (dx e) (dy e)
unfolding from_start
same_length e = go (starts_second e)
  where
    go : (t : Bool) → max (dx (cond t (exchanged e) e)) (dy (cond t (exchanged e) e)) ≡ max (dx e) (dy e)
    go true = omega arith
    go false = refl

pub walks-line : WalksLine
unfolding walk_of line_dots
walks-line e f =
    let n = same_length e in
    let fits : max (dx e) (dy e) ≤ 65535 = larger (dx e) (dy e) (apart_fits e.x1 e.x2 f.x1 f.x2) (apart_fits e.y1 e.y2 f.y1 f.y2) in (
      rw n,
      rw (sym n) (from-dots (from_start e) (rw n fits)),
    )
  where
    apart_fits : (a b : ℕ) → a < 65536 → b < 65536 → apart a b ≤ 65535
    apart_fits a b h k = omega arith

    larger : (a b : ℕ) → a ≤ 65535 → b ≤ 65535 → max a b ≤ 65535
    larger a b h k = omega arith
