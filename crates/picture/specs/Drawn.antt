-- What a whole file comes to.
use Rattle.std.specs.Prelude.{ℕ}

-- shown, with the dots painted and the cells that labels took; or refused, with the number and the place of the record's first byte
pub data Drawn : Type 0 where
  Shown : ℕ → ℕ → Drawn
  Refused : ℕ → ℕ → Drawn
