-- A course: the dots of a line by fixed point, without a decision value, for loops that only paint; and the statement that they are the dots of the closed formula.
-- A column or row is kept times 2 ^ 48, modulo 2 ^ 64, so its dot is its upper 16 bits, and a step is one sum.
use Rattle.std.specs.Prelude.{◌≡◌, ℕ, zero, suc, ◌+◌, ◌-◌, ◌*◌, ◌/◌, ◌%◌, ◌^◌, max, cond, List, nat_lt}
use Rattle.walk.specs.Tabulate.{tabulate}
use Rattle.walk.specs.Line.{apart, dx, dy, from_start, dot_count, line_dots}
use Rattle.walk.specs.Walk.{Fits16}
use Rattle.walk.specs.declared.bresenham.Ends.{Ends}
use Rattle.walk.specs.declared.bresenham.Dot.{Dot}
use Rattle.walk.specs.declared.course.Course.{Course}

-- one of `long` steps that go `short` dots together, rounded up: k steps go too far by at most k
unfoldable pub slope_of : ℕ → ℕ → ℕ
slope_of long short = cond (nat_lt short long) (short * 2 ^ 48 / long + 1) (2 ^ 48)

-- the start, from a toward b: the middle of dot a, but 2 ^ 30 short of it, for 'a tie staying nearer the start'.
-- That is more than the steps, fewer than 2 ^ 16, go too far in all, and less than 2 ^ 48 / (2 * long), by which an offset that is no tie misses the middle at least.
unfoldable pub place_of : ℕ → ℕ → ℕ
place_of a b = a * 2 ^ 48 + cond (nat_lt b a) (2 ^ 47 + 2 ^ 30) (2 ^ 47 - 2 ^ 30)

-- what a step adds: modulo 2 ^ 64, so that downwards in number it adds what is left
unfoldable pub move_of : ℕ → ℕ → ℕ → ℕ
move_of long a b = cond (nat_lt b a) (2 ^ 64 - slope_of long (apart a b)) (slope_of long (apart a b))

-- the course before its first step, of a line whose first end is its start
abbrev pub course_from : Ends → Course
course_from e = record {
  count = dot_count e;
  column = place_of e.x1 e.x2;
  row = place_of e.y1 e.y2;
  right = move_of (max (dx e) (dy e)) e.x1 e.x2;
  down = move_of (max (dx e) (dy e)) e.y1 e.y2;
}

unfoldable pub course_of : Ends → Course
course_of e = course_from (from_start e)

-- its dot, and one step
abbrev pub course_dot : Course → Dot
course_dot c = record { column = c.column / 2 ^ 48; row = c.row / 2 ^ 48 }

abbrev pub next_course : Course → Course
next_course c = record {
  count = c.count;
  column = (c.column + c.right) % 2 ^ 64;
  row = (c.row + c.down) % 2 ^ 64;
  right = c.right;
  down = c.down;
}

-- a course after k steps, and the dots of its first n
abbrev pub course_after : ℕ → Course → Course
course_after zero c = c
course_after (suc k) c = next_course (course_after k c)

abbrev pub course_dots : Course → ℕ → List Dot
course_dots c n = tabulate n (λ k. course_dot (course_after k c))

-- The course from `new`, stepped to its end, gives exactly the dots of the closed formula.
abbrev pub CoursesLine : Type 0
CoursesLine = (e : Ends) → Fits16 e → ((course_of e).count ≡ dot_count e) × (course_dots (course_of e) (course_of e).count ≡ line_dots e)
