-- Laws of lists of dots painted, and of the loops over a walk, a course and its cells' words, which the functions' proofs and crates above cite.
pub mod PaintedDots
pub mod DotLoops
pub mod CourseLoops
pub mod WordLoops
