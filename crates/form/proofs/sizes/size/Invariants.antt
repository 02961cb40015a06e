use Rattle.std.proofs.Common.{◌≡◌, ◌≤◌, sum, take}
use Rattle.form.specs.Fields.{place_of}
use Rattle.form.proofs.sizes.size.Given as goal

-- the end of the fields before this one
abbrev pub invariant-loop-k : goal.invariant-loop-k
invariant-loop-k l = record { place : l.end ≡ place_of l.map l.widths l.k; bound : l.end ≤ sum (take l.k l.widths) }
