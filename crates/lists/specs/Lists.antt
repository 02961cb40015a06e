-- Lists of pairs in the bytes of a points record: document 01, 'Picture file (ours) and its program'.
use Rattle.std.specs.Prelude.{ℕ, ◌+◌, ◌-◌, ◌*◌, Bool, true, cond, ◌&&◌, List, [], leb, length}
use Rattle.floats.specs.Arithmetic.{bits}
use Rattle.walk.specs.Tabulate.{tabulate}
use Rattle.walk.specs.declared.bresenham.Dot.{Dot}
use Rattle.view.specs.declared.point.View.{View}
use Rattle.shapes.specs.Shapes.{pair_dots}
use Rattle.walk.specs.declared.clip.Pair.{Pair}
use Rattle.ledger.specs.Calls.{bad_pairs}
use Rattle.form.specs.Fields.{number_at}

-- a pair of floats, and n of them one after the other
abbrev pub pair_at : List ℕ → ℕ → Pair
pair_at part at = record { x = bits (number_at part at 8); y = bits (number_at part (at + 8) 8) }

abbrev pub pairs_at : List ℕ → ℕ → ℕ → List Pair
pairs_at part at n = tabulate n (λ i. pair_at part (at + 16 * i))

-- 'list (2-byte count, pairs)': n pairs after the count lie in the part; no more than 4,096, which is more than a file of 65,536 bytes has room for
unfoldable pub list_fits : List ℕ → ℕ → Bool
list_fits part n = leb n 4096 && leb (n * 16) (length part - 2)

-- whether a pair of a list has a number outside the domain, and the dots of its points; a list that does not fit counts as bad and has none
unfoldable pub bad_list : List ℕ → ℕ → Bool
bad_list part n = cond (list_fits part n) (bad_pairs (pairs_at part 2 n)) true

unfoldable pub list_dots : View → List ℕ → ℕ → List Dot
list_dots v part n = cond (list_fits part n) (pair_dots v (pairs_at part 2 n)) []
