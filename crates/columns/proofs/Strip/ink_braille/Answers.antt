-- A cell above the last has a lower index.
use Prim.Native.Nat.{◌+◌, ◌-◌, ◌*◌, ◌/◌}
use mathlib.Core.Path.{◌≡◌, ap}
use native.Mathlib.Omega.{arith}
use Rattle.columns.proofs.Strip.ink_braille.Goals as goal

pub ink_down-requires : goal.ink_down-requires
ink_down-requires c =
    let a = c.args.self in
    let e : a.high / 4 * a.grid.columns ≡ (a.low / 4 + 1 + (a.high / 4 - a.low / 4 - 1)) * a.grid.columns = ap (λ q. q * a.grid.columns) (omega arith) in
    rw c.flat_index-head.ensures (omega (arith, c.ink_at-else-self.auto.cells))
