-- Document 01's numbers of the refusals.
use Rattle.std.specs.Prelude.{ℕ, Result, Ok, Err}
use Rattle.refusals.specs.declared.refusal.Refusal.{Refusal}
use Rattle.refusals.specs.declared.refusal.Refusal.TheVariants.{Size, Number, Colour, Marker, Canvas, Rendered, Draws, Pairs, Outside, Text, Labels, Edge, Screen, Cut, Kind, Map, Length}

abbrev pub number_of : Refusal → ℕ
number_of Size = 1
number_of Number = 2
number_of Colour = 3
number_of Marker = 4
number_of Canvas = 5
number_of Rendered = 6
number_of Draws = 7
number_of Pairs = 8
number_of Outside = 9
number_of Text = 10
number_of Labels = 11
number_of Edge = 12
number_of Screen = 13
number_of Cut = 14
number_of Kind = 15
number_of Map = 16
number_of Length = 17

-- a result's refusal, by its number; 0 is none
abbrev pub number_in : {A : Type 0} → Result A Refusal → ℕ
number_in (Ok x) = 0
number_in (Err r) = number_of r
