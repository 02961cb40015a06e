-- There is room for what is printed.
use Rattle.std.proofs.Common.{arith}
use Rattle.report.proofs.FromBytes.{show-printed}
use Rattle.report.proofs.Enough.{show-room, printed}
use Rattle.report.proofs.program.print_show.Goals as goal

pub returns : goal.returns
returns c =
    let a = c.args in
    let r = printed a.out.now (show-printed a.file.now) (omega (arith, show-room a.file.now)) c.print.ensures in
    record { out_after = r.0; upper_bound = r.1 }
