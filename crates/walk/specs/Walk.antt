-- What the functions of a Walk give, for every value of it; and the statement that a walk from `new` gives the dots of the closed formula.
-- Document 01: 'The signed decision value steps only above 0.'
use Rattle.std.specs.Prelude.{◌≡◌, ℕ, zero, suc, ◌+◌, ◌-◌, ◌*◌, ◌^◌, ◌<◌, min, max, Bool, cond, not, ◌&&◌, List, ℤ, pos, negsuc, ◌+ℤ◌, ◌-ℤ◌, int_lt, nat_lt}
use Rattle.walk.specs.Tabulate.{tabulate}
use Rattle.walk.specs.Line.{dx, dy, shallow, from_start, dot_count, line_dots}
use Rattle.walk.specs.declared.bresenham.Ends.{Ends}
use Rattle.walk.specs.declared.bresenham.Dot.{Dot}
use Rattle.walk.specs.declared.bresenham.Walk.{Walk}

-- `let mut d = 2 * dy - dx;`, at the start
abbrev pub first_decision : ℕ → ℕ → ℤ
first_decision long short = pos (2 * short) -ℤ pos long

-- the walk before its first step, of a line whose first end is its start
abbrev pub walk_from : Ends → Walk
walk_from e = record {
  x = e.x1;
  y = e.y1;
  long = max (dx e) (dy e);
  short = min (dx e) (dy e);
  steep = not (shallow e);
  back = cond (shallow e) (nat_lt e.y2 e.y1) (nat_lt e.x2 e.x1);
  at = 0;
  offset = 0;
  d = first_decision (max (dx e) (dy e)) (min (dx e) (dy e));
}

unfoldable pub walk_of : Ends → Walk
walk_of e = walk_from (from_start e)

-- how many dots a walk has
abbrev pub count_of : Walk → ℕ
count_of w = w.long + 1

-- its dot; `saturating_sub` stays at 0
abbrev pub moved : Bool → ℕ → ℕ → ℕ
moved back a o = cond back (a - o) (a + o)

unfoldable pub dot_of : Walk → Dot
dot_of w =
    cond w.steep
    (record { column = moved w.back w.x w.offset; row = w.y + w.at })
    (record { column = w.x + w.at; row = moved w.back w.y w.offset })

-- a walk that is not at its end, and whose numbers stay in range
abbrev pub small : ℤ → Bool
small z = int_lt (negsuc (2 ^ 20)) z && int_lt z (pos (2 ^ 20))

abbrev pub on_way : Walk → Bool
on_way w = (small w.d && nat_lt w.at w.long) && nat_lt w.offset 65535

-- 'if d > 0 { y = ..; d -= 2 * dx; } d += 2 * dy;'
unfoldable pub next_decision : ℕ → ℕ → ℤ → ℤ
next_decision long short d = cond (int_lt (pos 0) d) (d -ℤ pos (2 * long) +ℤ pos (2 * short)) (d +ℤ pos (2 * short))

unfoldable pub next_offset : ℤ → ℕ → ℕ
next_offset d offset = cond (int_lt (pos 0) d) (offset + 1) offset

abbrev pub stepped : Walk → Walk
stepped w = record {
  x = w.x;
  y = w.y;
  long = w.long;
  short = w.short;
  steep = w.steep;
  back = w.back;
  at = w.at + 1;
  offset = next_offset w.d w.offset;
  d = next_decision w.long w.short w.d;
}

-- one step; a walk that is at its end stays
unfoldable pub step_of : Walk → Walk
step_of w = cond (on_way w) (stepped w) w

-- a walk after k steps, and the dots of its first n
abbrev pub steps : ℕ → Walk → Walk
steps zero w = w
steps (suc k) w = step_of (steps k w)

abbrev pub walk_dots : Walk → ℕ → List Dot
walk_dots w n = tabulate n (λ k. dot_of (steps k w))

-- 'Ends are 16-bit numbers.'
pub record Fits16 (e : Ends) : Type 0 where
  pub x1 : e.x1 < 2 ^ 16
  pub y1 : e.y1 < 2 ^ 16
  pub x2 : e.x2 < 2 ^ 16
  pub y2 : e.y2 < 2 ^ 16

-- The walk from `new`, stepped to its end, gives exactly the dots of the closed formula.
abbrev pub WalksLine : Type 0
WalksLine = (e : Ends) → Fits16 e → (count_of (walk_of e) ≡ dot_count e) × (walk_dots (walk_of e) (count_of (walk_of e)) ≡ line_dots e)
