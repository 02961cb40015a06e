-- Field by field.
use Rattle.std.proofs.Common.{arith}
use Rattle.form.proofs.FieldSteps.{begun, real-step, number-step}
use Rattle.records.proofs.calls.filled_line_of.Goals as goal

pub returns : goal.returns
returns c =
    let s0 = begun c.new-fields.ensures in
    let s1 = real-step s0 c.real.ensures.value c.real.ensures.after (omega arith) in
    let s2 = real-step s1.1 c.real-2.ensures.value c.real-2.ensures.after (omega arith) in
    let s3 = real-step s2.1 c.real-3.ensures.value c.real-3.ensures.after (omega arith) in
    let s4 = real-step s3.1 c.real-4.ensures.value c.real-4.ensures.after (omega arith) in
    let s5 = real-step s4.1 c.real-5.ensures.value c.real-5.ensures.after (omega arith) in
    let k = number-step _ _ s5.1 c.next.ensures.value c.next.ensures.after (omega arith) in
    rw (s1.0, s2.0, s3.0, s4.0, s5.0, k.0)
