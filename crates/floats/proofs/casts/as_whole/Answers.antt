-- The integer that as_i64 gives comes back from its bits; where these are 0 it is 0.
use Rattle.std.proofs.Common.{◌≡◌, pos, sym, ap, ◌∙◌, arith, w64, to_z}
use lib.Ieee.{binary64, of_int, of_bits}
use mir.ValLaws.{to_z-of_z, to_z_pos}
use Rattle.floats.proofs.casts.as_whole.Goals as goal

pub returns-then-n-eq0 : goal.returns-then-n-eq0
unfolding of_bits of_int
returns-then-n-eq0 c =
    let n = c.as_i64-n in
    let zero : n.result ≡ pos 0 = sym (to_z-of_z w64 n.result (record { sfits = n.type_inv })) ∙ ap (to_z w64) c.if-n-eq0.true ∙ to_z_pos w64 0 (omega arith) in
    ap (of_int binary64) (sym zero ∙ n.ensures)
