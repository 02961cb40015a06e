-- The code's tests are the definition's.
use mathlib.Core.Path.{◌∙◌}
use Rattle.std.proofs.Common.{rules}
use Rattle.text.proofs.Scalars.{shown_by}
use Rattle.text.proofs.utf8.shown_symbol.Goals as goal

pub returns : goal.returns
returns c = c.unwrap_or.ensures ∙ shown_by c.args.symbol c.from_u32.result c.filter.result (λ x b q. search rules) c.from_u32.ensures.value c.filter.ensures
