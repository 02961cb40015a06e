-- The stores and the screen are long enough for the limits, so that what is printed is what the bytes alone say.
use Rattle.std.proofs.Common.{sym, arith}
use lib.Seq.{length-take-le}
use Rattle.report.proofs.Prints.{same_bytes}
use Rattle.report.proofs.FromBytes.{size_room, printed-by-bytes}
use Rattle.report.proofs.program.print.Goals as goal

pub slice_bounds-screen-end : goal.slice_bounds-screen-end
slice_bounds-screen-end g c = rw c.picture_size-n.ensures (size_room _ _ _)

pub slice_bounds-print_on-end-3 : goal.slice_bounds-print_on-end-3
slice_bounds-print_on-end-3 g c = sym (length-take-le _ _ (rw c.picture_size-n.ensures (size_room _ _ _)))

pub returns : goal.returns
returns g c =
    let a = c.args in
    same_bytes a.out.now (printed-by-bytes a.file.now _ _ _ c.picture_size-n.ensures (omega arith) (omega arith) (omega arith) g.P.Output.text) c.print_on.ensures
