-- A pattern above infinity's is a NaN's; every other has its float.
use Rattle.std.proofs.Common.{sym, rules}
use lib.Ieee.{of_bits}
use Rattle.form.proofs.Bits.{nan-above, not-nan}
use Rattle.form.proofs.fields.from_bits.Goals as goal

pub returns-then-n-gt9218868437227405312 : goal.returns-then-n-gt9218868437227405312
unfolding of_bits
returns-then-n-gt9218868437227405312 c = sym (nan-above _ c.if-n-gt9218868437227405312.true)

pub float_from_bits-result : goal.float_from_bits-result
float_from_bits-result c = search (rules, not-nan _ c.if-n-gt9218868437227405312.false)
