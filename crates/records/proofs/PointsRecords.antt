-- A points record: its list lies in its part, and the call by what was read of it.
use mathlib.Core.Path.{◌≡◌, refl}
use mathlib.Core.Bool.{Bool, true, false}
use mathlib.Core.List.{List}
use Prim.Native.Nat.{ℕ, ◌+◌, ◌-◌, ◌*◌, ◌≤◌}
use native.Mathlib.Omega.{arith}
use lib.ListN.{length}
use Rattle.view.specs.Limits.{reset}
use Rattle.ledger.specs.Calls.{points}
use Rattle.form.specs.Fields.{number_at, stands, width_in, place_of, size_by, number_in}
use Rattle.form.specs.Forms.{max_file, points_widths, pair_count}
use Rattle.lists.specs.Lists.{pairs_at, list_fits}
use Rattle.lists.proofs.PairParts.{does-fit}
use Rattle.records.specs.Records.{points_call}

-- a list that fits a file lies in its part, and has few enough pairs to be counted
pub few-pairs : (map : ℕ) (part : List ℕ) → size_by map (points_widths part) ≤ length part → length part ≤ max_file → list_fits part (pair_count map part) ≡ true
few-pairs map part fit short = let f = go (stands map 1) refl in does-fit part (pair_count map part) f.0 f.1
  where
    go : (t : Bool) → t ≡ stands map 1 → (16 * pair_count map part ≤ length part - 2) × (pair_count map part ≤ 4096)
    go true e = rw (← e) (let f : 0 + (2 + 16 * number_at part 0 2) + width_in map 2 4 ≤ length part = rw (← e) at fit in (omega (arith, f), omega (arith, f, short)))
    go false e = rw (← e) (omega arith, omega arith)

-- the call of a points record, by what was read of it
pub points-is : (map : ℕ) (part : List ℕ) (count place colour : ℕ) → count ≡ pair_count map part → place ≡ place_of map (points_widths part) 1 → colour ≡ number_in part place map 2 4 reset
    → points (pairs_at part 2 count) colour ≡ points_call map part
points-is map part count place colour c p v = rw (v, p, c)
