-- The bytes of a label that fit, by the words of its place: each is in the area, and they are no more than its length.
use mathlib.Core.Path.{◌≡◌, refl}
use mathlib.Core.Bool.{Bool, true, false, cond}
use Prim.Native.Nat.{ℕ, zero, suc, ◌+◌, ◌-◌, ◌≤◌, ◌<◌, min}
use native.Mathlib.Omega.{arith}
use lib.Dec.{ltb}
use borrow.Author.Tests.{ltb-true}
use Rattle.ledger.specs.Labels.{place_of}
use Rattle.ledger.specs.Model.{fitting_at}

module _ (columns rows : ℕ) where
  -- the byte i of those that fit
  pub fitting-byte : (word row n i : ℕ) → i < fitting_at columns rows (place_of word row) n → (1 ≤ word) × (row < rows) × (word - 1 + i < columns) × (i < n)
  fitting-byte zero row n i h = absurd (omega arith)
  fitting-byte (suc column) row n i h = go (ltb row rows) refl h
    where
      go : (t : Bool) → ltb row rows ≡ t → i < cond t (min n (columns - column)) 0 → (1 ≤ suc column) × (row < rows) × (suc column - 1 + i < columns) × (i < n)
      go true e l = (omega arith, ltb-true row rows e, omega arith, omega arith)
      go false e l = absurd (omega arith)

  pub fitting-at-most : (word row n : ℕ) → fitting_at columns rows (place_of word row) n ≤ n
  fitting-at-most zero row n = omega arith
  fitting-at-most (suc column) row n = go (ltb row rows)
    where
      go : (t : Bool) → cond t (min n (columns - column)) 0 ≤ n
      go true = omega arith
      go false = omega arith
