-- The number in base 16; more divisions give no other digits.
use Prim.Native.Nat.{ℕ}
use mathlib.Core.List.{List, [], ◌∷◌, ◌++◌}
use mathlib.Core.Path.{ap, sym}
use Rattle.text.specs.Numbers.{hexadecimal_field}
use Rattle.text.proofs.WriterSteps.{same_bytes}
use Rattle.text.proofs.Numerals.{hexadecimal-more}
use Rattle.text.proofs.writer.Writer.hexadecimal_field.Goals as goal

pub returns : goal.returns
unfolding hexadecimal_field
returns c =
    same_bytes c.number.ensures (ap (λ (ds : List ℕ). ds ++ (c.args.end ∷ [])) (sym (hexadecimal-more c.args.n c.ranges.n.fits)))
