-- Each way out: what the calls found are the parts of the definition.
use Rattle.shapes.specs.Shapes.{line_ends}
use Rattle.shapes.proofs.LineCases.{found_first, found-second}
use Rattle.shapes.proofs.painters.line_ends.Goals as goal

pub returns-in_default : goal.returns-in_default
unfolding line_ends
returns-in_default c = rw (← c.clip_line-clipped.ensures, c.in_default.is)

pub returns-in_default-first : goal.returns-in_default-first
unfolding line_ends
returns-in_default-first c =
    let a = c.args in
    rw (
      ← c.clip_line-clipped.ensures,
      c.in-Some.is,
      found_first a.v a.s c.clip_line-clipped.ensures c.in-Some.is c.frame_of-f.ensures c.spot_inside-first.ensures c.in_default-first.is,
    )

pub returns-in_default-second : goal.returns-in_default-second
unfolding line_ends
returns-in_default-second c =
    let a = c.args in
    rw (
      ← c.clip_line-clipped.ensures,
      c.in-Some.is,
      found_first a.v a.s c.clip_line-clipped.ensures c.in-Some.is c.frame_of-f.ensures c.spot_inside-first.ensures c.in-Some-first.is,
      found-second a.v a.s c.clip_line-clipped.ensures c.in-Some.is c.frame_of-f.ensures c.spot_inside-second.ensures c.in_default-second.is,
    )

pub returns : goal.returns
unfolding line_ends
returns c =
    let a = c.args in
    rw (
      ← c.clip_line-clipped.ensures,
      c.in-Some.is,
      found_first a.v a.s c.clip_line-clipped.ensures c.in-Some.is c.frame_of-f.ensures c.spot_inside-first.ensures c.in-Some-first.is,
      found-second a.v a.s c.clip_line-clipped.ensures c.in-Some.is c.frame_of-f.ensures c.spot_inside-second.ensures c.in-Some-second.is,
    )
