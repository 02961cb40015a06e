-- The dots of a line, by the closed formula of document 01, 'The walk (line.rs; Bresenham 1965)'.
use Rattle.std.specs.Prelude.{ℕ, ◌+◌, ◌-◌, ◌*◌, ◌/◌, max, Bool, cond, List, nat_lt}
use Rattle.walk.specs.Tabulate.{tabulate}
use Rattle.walk.specs.declared.bresenham.Ends.{Ends}
use Rattle.walk.specs.declared.bresenham.Dot.{Dot}

-- 'With dx, dy the absolute differences'
abbrev pub apart : ℕ → ℕ → ℕ
apart a b = a - b + (b - a)

abbrev pub dx : Ends → ℕ
dx e = apart e.x1 e.x2

abbrev pub dy : Ends → ℕ
dy e = apart e.y1 e.y2

-- dy < dx
abbrev pub shallow : Ends → Bool
shallow e = nat_lt (dy e) (dx e)

-- 'dx = 0 or dy = 0 runs upwards in number; dy < dx starts at the end with smaller x, otherwise at the end with smaller y.'
unfoldable pub starts_second : Ends → Bool
starts_second e = cond (shallow e) (nat_lt e.x2 e.x1) (nat_lt e.y2 e.y1)

-- the same line, with the end where it starts first
abbrev pub exchanged : Ends → Ends
exchanged e = record { x1 = e.x2; y1 = e.y2; x2 = e.x1; y2 = e.y1 }

unfoldable pub from_start : Ends → Ends
from_start e = cond (starts_second e) (exchanged e) e

-- 'After k steps the offset in the shorter direction is floor((2·k·dy + dx - 1) / (2·dx)), the two names exchanged where dy ≥ dx'
unfoldable pub offset_after : ℕ → ℕ → ℕ → ℕ
offset_after long short k = (2 * (k * short) + long - 1) / (2 * long)

-- o steps from a toward b
abbrev pub toward : ℕ → ℕ → ℕ → ℕ
toward a b o = cond (nat_lt b a) (a - o) (a + o)

-- the dot after k steps, of a line whose first end is its start
unfoldable pub dot_after : Ends → ℕ → Dot
dot_after e k =
    cond (shallow e)
    (record { column = e.x1 + k; row = toward e.y1 e.y2 (offset_after (dx e) (dy e) k) })
    (record { column = toward e.x1 e.x2 (offset_after (dy e) (dx e) k); row = e.y1 + k })

-- 'Dots: max(dx, dy) + 1.'
abbrev pub dot_count : Ends → ℕ
dot_count e = max (dx e) (dy e) + 1

unfoldable pub line_dots : Ends → List Dot
line_dots e = tabulate (dot_count e) (dot_after (from_start e))
