-- After k turns the first k cells are blank.
use Rattle.std.proofs.Common.{refl, arith}
use Rattle.report.specs.Screen.{blanked}
use Rattle.report.proofs.Blank.{blanked-next, all-blanked}
use Rattle.report.proofs.screen.blank_screen.Goals as goal

pub loop-k-init : goal.loop-k-init
unfolding blanked
loop-k-init c = record { blank = refl }

pub loop-k-preserved : goal.loop-k-preserved
loop-k-preserved c = record { blank = blanked-next _ _ c.loop-k.k c.loop-k.invariant.blank }

pub returns : goal.returns
returns c = all-blanked _ _ c.loop-k.k c.loop-k.invariant.blank (omega arith) c.loop-k-test.false
