-- What a call answers, and leaves of the canvas.
use Rattle.std.specs.Prelude.{ℕ}
use Rattle.ledger.specs.declared.state.Canvas.{Canvas}

-- refused, with document 01's number; the dots painted; done; or rendered, with the dots painted in all and the cells that labels took
pub data Answer : Type 0 where
  Refused : ℕ → Answer
  Painted : ℕ → Answer
  Done : Answer
  Rendered : ℕ → ℕ → Answer

-- the canvas after a call, and its answer
pub record Called : Type 0 where
  pub canvas : Canvas
  pub answer : Answer
