-- Bytes laid into a lent list.
use Rattle.std.specs.Prelude.{ℕ, suc, List, [], ◌∷◌, set}

-- the bytes put one after the other from place p on; `set` past the end changes nothing, so a byte there is dropped
unfoldable pub laid : List ℕ → ℕ → List ℕ → List ℕ
laid out p [] = out
laid out p (byte ∷ bytes) = laid (set out p byte) (suc p) bytes
