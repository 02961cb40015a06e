-- A refusal's number is one of 1 to 17, so that 0 is none.
use Rattle.std.specs.Prelude.{◌<◌, ◌≡◌}
use Rattle.std.proofs.Common.{arith}
use Rattle.refusals.specs.declared.refusal.Refusal.{Refusal}
use Rattle.refusals.specs.declared.refusal.Refusal.TheVariants.{Size, Number, Colour, Marker, Canvas, Rendered, Draws, Pairs, Outside, Text, Labels, Edge, Screen, Cut, Kind, Map, Length}
use Rattle.refusals.specs.Refusals.{number_of}

pub numbered : (r : Refusal) → (0 < number_of r) × (number_of r < 18)
numbered Size = omega arith
numbered Number = omega arith
numbered Colour = omega arith
numbered Marker = omega arith
numbered Canvas = omega arith
numbered Rendered = omega arith
numbered Draws = omega arith
numbered Pairs = omega arith
numbered Outside = omega arith
numbered Text = omega arith
numbered Labels = omega arith
numbered Edge = omega arith
numbered Screen = omega arith
numbered Cut = omega arith
numbered Kind = omega arith
numbered Map = omega arith
numbered Length = omega arith

-- a refusal's number is none
pub some-number : (r : Refusal) → number_of r ≡ 0 → ⊥
some-number r e =
    let (low, high) = numbered r in
    omega arith
