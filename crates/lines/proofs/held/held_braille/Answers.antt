-- The cell of each dot is held.
use Rattle.std.proofs.lemmas.Iterator.Consumers.{YieldsList-turn, YieldsList-end}
use Rattle.walk.proofs.DotsAlong.{course-yields}
use Rattle.lines.proofs.DotLoops.{all-painted}
use Rattle.lines.proofs.CourseLoops.{braille_cell, dot-held}
use Rattle.lines.proofs.held.held_braille.Goals as goal

pub set_braille-requires : goal.set_braille-requires
set_braille-requires c =
    let a = c.args in
    let l = c.loop-dot in (
      c.requires.0,
      dot-held a.p (braille_cell a.p.grid.columns) a.cells.now l.cells a.c _ c.in-Some.dot c.requires.1 l.auto.cells
          (YieldsList-turn (course-yields a.c _ cc) l.yielded _ l.yielded_by _ _ c.in-Some.dot c.in-Some.is c.next.ensures.steps),
    )

pub returns : goal.returns
returns c =
    let l = c.loop-dot in
    all-painted c.args.p _ _ _ _ l.invariant (YieldsList-end (course-yields c.args.c _ cc) l.yielded _ l.yielded_by _ _ c.in-None.is c.next.ensures.steps)
