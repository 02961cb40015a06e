-- Where the records of a file end.
use Rattle.std.specs.Prelude.{ℕ}

-- at the file's end, or at a refusal with its number and the place of the record's first byte
pub data Stop : Type 0 where
  End : Stop
  Refused : ℕ → ℕ → Stop
