-- What the methods of a writer leave.
use Rattle.std.specs.Prelude.{ℕ, ◌+◌, ◌<◌, ◌^◌, ◌≡◌, List, length}
use Rattle.text.specs.declared.writer.Writer.{Writer}
use Rattle.text.specs.Bytes.{laid}

-- what a method that puts bytes leaves: the same lent list, and, where the place after the bytes fits, the bytes laid in it from the old place on, and that place
pub record Wrote (old : Writer) (bytes : List ℕ) (new : Writer) : Type 0 where
  pub same_reference : new.out.ghost_name ≡ old.out.ghost_name
  pub list : old.end + length bytes < 2 ^ 64 → new.out.now ≡ laid old.out.now old.end bytes
  pub place : old.end + length bytes < 2 ^ 64 → new.end ≡ old.end + length bytes
