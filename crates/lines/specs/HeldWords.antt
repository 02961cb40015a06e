-- What a loop leaves that counts the words of cells, without cells or dots: for lines on grids of one dot a cell.
use Rattle.std.specs.Prelude.{ℕ, zero, suc, ◌+◌, ◌*◌, ◌/◌, ◌%◌, ◌^◌, List, bit_or, slice_index, slice_set}

-- the first word of the k-th cell: k whole steps from `start`, and as many units as the whole part of `from` and k slopes
abbrev pub word_after : ℕ → ℕ → ℕ → ℕ → ℕ → ℕ → ℕ
word_after start step unit from slope k = start + k * step + (from + k * slope) % 2 ^ 64 / 2 ^ 48 * unit

-- the bit and ink of the cell whose first word is i
abbrev pub word_set : ℕ → List ℕ → ℕ → List ℕ
word_set word cells i = slice_set (slice_set cells (i + 3) (bit_or (slice_index cells (i + 3)) 1)) (i + 4) word

-- those of the first n cells, the k-th of which has its first word at `at k`
abbrev pub words_set : ℕ → (ℕ → ℕ) → List ℕ → ℕ → List ℕ
words_set word at cells zero = cells
words_set word at cells (suc n) = word_set word (words_set word at cells n) (at n)
