-- The n dots of a way from s on: `dot` of where it is, and `next` of where it goes from there.
use Rattle.std.specs.Prelude.{ℕ, zero, suc, List, [], ◌∷◌}
use Rattle.walk.specs.declared.bresenham.Dot.{Dot}

abbrev pub dots_along : {S : Type 0} → (S → Dot) → (S → S) → S → ℕ → List Dot
dots_along dot next s zero = []
dots_along dot next s (suc n) = dot s ∷ dots_along dot next (next s) n
