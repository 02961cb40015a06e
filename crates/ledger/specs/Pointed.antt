-- What get_point answers.
use Rattle.std.specs.Prelude.{ℕ}

-- refused, with document 01's number; a dot's column and row; or none
pub data Pointed : Type 0 where
  Refused : ℕ → Pointed
  Dot : ℕ → ℕ → Pointed
  None : Pointed
