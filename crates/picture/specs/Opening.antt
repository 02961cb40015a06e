-- The opening of a picture file: document 01, 'Picture file (ours) and its program'.
use Rattle.std.specs.Prelude.{ℕ, List}
use Rattle.view.specs.Limits.{reset}
use Rattle.ledger.specs.declared.state.Opening.{Opening}
use Rattle.form.specs.Fields.{number_at, number_field, float_field}
use Rattle.form.specs.Forms.{opening_widths, opening_map, opening_part}

-- 'absent: 0.0, 1, 0020, Reset'
abbrev pub opening_from : ℕ → ℕ → ℕ → List ℕ → Opening
opening_from columns rows map part = record {
  columns = columns;
  rows = rows;
  bounds = record { left = float_field map part opening_widths 0; right = float_field map part opening_widths 1; bottom = float_field map part opening_widths 2; top = float_field map part opening_widths 3 };
  marker = number_field map part opening_widths 4 1;
  character = number_field map part opening_widths 5 0x20;
  background = number_field map part opening_widths 6 reset;
}

unfoldable pub opening_of : List ℕ → Opening
opening_of file = opening_from (number_at file 0 2) (number_at file 2 2) (opening_map file) (opening_part file)
