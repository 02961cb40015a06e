-- Document 01, 'Clipping (stand-in)', sentence by sentence.
use Rattle.std.specs.Prelude.{ℕ, zero, suc, ◌+◌, Bool, cond, not, ◌&&◌, ◌||◌, Float, Some, None}
use Rattle.std.specs.Float.Ieee.{lt}
use Rattle.floats.specs.Arithmetic.{◌⊕◌, ◌⊖◌, ◌⊗◌, ◌⊘◌}
use Rattle.walk.specs.declared.clip.Bounds.{Bounds}
use Rattle.walk.specs.declared.clip.Segment.{Segment}
use Rattle.walk.specs.declared.clip.Sides.{Sides}
use Rattle.walk.specs.declared.clip.Pair.{Pair}
use Rattle.walk.specs.declared.clip.Clipped.{Clipped}

-- 'An end's sides: left if x is below xmin, else right if above xmax; bottom if y is below ymin, else top if above ymax.'
unfoldable pub sides_of : Bounds → Float → Float → Sides
sides_of b x y = record {
  left = lt x b.left;
  right = not (lt x b.left) && lt b.right x;
  bottom = lt y b.bottom;
  top = not (lt y b.bottom) && lt b.top y;
}

abbrev pub first_sides : Bounds → Segment → Sides
first_sides b s = sides_of b s.x1 s.y1

abbrev pub second_sides : Bounds → Segment → Sides
second_sides b s = sides_of b s.x2 s.y2

-- an end has a side; two ends have a side in common
unfoldable pub outside : Sides → Bool
outside s = s.left || s.right || s.bottom || s.top

unfoldable pub common : Sides → Sides → Bool
common s t = s.left && t.left || s.right && t.right || s.bottom && t.bottom || s.top && t.top

-- 'Left ...: y becomes y1 + (y2 - y1) × (xmin - x1) / (x2 - x1), multiplied before divided, both ends as earlier cuts left them, and the end's x becomes xmin; the others alike.'
abbrev pub on_vertical : Segment → Float → Pair
on_vertical s x = record { x = x; y = s.y1 ⊕ (s.y2 ⊖ s.y1) ⊗ (x ⊖ s.x1) ⊘ (s.x2 ⊖ s.x1) }

abbrev pub on_horizontal : Segment → Float → Pair
on_horizontal s y = record { x = s.x1 ⊕ (s.x2 ⊖ s.x1) ⊗ (y ⊖ s.y1) ⊘ (s.y2 ⊖ s.y1); y = y }

-- '... at its first side in the order left, right, bottom, top'
unfoldable pub cut_point : Bounds → Segment → Sides → Pair
cut_point b s end =
    cond end.left (on_vertical s b.left)
    (cond end.right (on_vertical s b.right)
    (cond end.bottom (on_horizontal s b.bottom) (on_horizontal s b.top)))

abbrev pub with_first : Segment → Pair → Segment
with_first s p = record { x1 = p.x; y1 = p.y; x2 = s.x2; y2 = s.y2 }

abbrev pub with_second : Segment → Pair → Segment
with_second s p = record { x1 = s.x1; y1 = s.y1; x2 = p.x; y2 = p.y }

-- '... cut the first end if it has a side, else the second'
unfoldable pub cut_of : Bounds → Segment → Sides → Sides → Segment
cut_of b s first second = cond (outside first) (with_first s (cut_point b s first)) (with_second s (cut_point b s second))

-- what is accepted, and no line, after n cuts
abbrev pub accepted : Segment → ℕ → Clipped
accepted s n = record { line = Some s; cuts = n }

abbrev pub no_line : ℕ → Clipped
no_line n = record { line = None; cuts = n }

-- 'Repeat: no sides at either end, accept; a side in common, no line; eight cuts made, no line; else cut': with `left` of the eight still to make and n made
abbrev pub judged : Bounds → Segment → ℕ → Clipped → Clipped
judged b s n else =
    cond (not (outside (first_sides b s) || outside (second_sides b s))) (accepted s n) (cond (common (first_sides b s) (second_sides b s)) (no_line n) else)

unfoldable pub clip_from : ℕ → ℕ → Bounds → Segment → Clipped
clip_from zero n b s = judged b s n (no_line n)
clip_from (suc left) n b s = judged b s n (clip_from left (n + 1) b (cut_of b s (first_sides b s) (second_sides b s)))

-- 'The answer carries the number of cuts'
abbrev pub clip_of : Bounds → Segment → Clipped
clip_of b s = clip_from 8 0 b s
