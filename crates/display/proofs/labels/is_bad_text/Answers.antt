use Rattle.std.proofs.Common.{rules, tests, le-ltb}
use Rattle.std.proofs.lemmas.Iterator.{YieldsList-from_slice}
use Rattle.std.proofs.lemmas.Iterator.Search.{any_from_yields_List}
use Rattle.ledger.specs.Calls.{bad_byte, bad_bytes}
use Rattle.display.proofs.labels.is_bad_text.Goals as goal

pub returns-else-text-gt40 : goal.returns-else-text-gt40
unfolding bad_bytes
returns-else-text-gt40 c =
    rw (le-ltb _ _ c.if-text-gt40.false)
    (any_from_yields_List bad_byte _ _ c.any.result c.any.ensures.ran (YieldsList-from_slice c.args.text.now cc) (λ x b q k. search (rules, tests)))
