-- The kinds of records, by document 01's numbers.
use Rattle.std.specs.Prelude.{ℕ, ◌≡◌, true, Result, MatchResult}
use Rattle.refusals.specs.declared.refusal.Refusal.{Refusal}
use Rattle.refusals.specs.declared.refusal.Refusal.TheVariants as refusal
use Rattle.form.specs.declared.kind.Kind.{Kind}
use Rattle.form.specs.declared.kind.Kind.TheVariants.{Line, FilledLine, Rectangle, Circle, Points, Layer, Marker, Label, Dot}
use Rattle.form.specs.Forms.{is_unknown}

-- '1 line ...; 2 filled line ...; 3 rectangle ...; 4 circle ...; 5 points ...; 6 layer; 7 marker ...; 8 label ...; 9 dot'
abbrev pub kind_number : Kind → ℕ
kind_number Line = 1
kind_number FilledLine = 2
kind_number Rectangle = 3
kind_number Circle = 4
kind_number Points = 5
kind_number Layer = 6
kind_number Marker = 7
kind_number Label = 8
kind_number Dot = 9

-- the kind with this number, or the refusal of a number that no kind has
abbrev pub Decodes : ℕ → Result Kind Refusal → Type 0
Decodes number r = MatchResult r (λ kind. kind_number kind ≡ number) (λ e. (e ≡ refusal.Kind) × (is_unknown number ≡ true))
