-- Laws of clipping, of the walk and of the course, which the functions' proofs and crates above cite.
pub mod Clipping
pub mod Decision
pub mod Offset
pub mod Tabulated
pub mod DotsAlong
pub mod ClosedFormula
pub mod LineDots
pub mod FixedPoint
pub mod CourseDots
