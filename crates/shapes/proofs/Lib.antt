-- Laws of points painted, of the ways a line is clipped, of a circle's points and of the dots' number, which the functions' proofs and crates above cite.
pub mod PaintLists
pub mod LineCases
pub mod DotCounts
pub mod InsideOrOutside
pub mod CircleInside
pub mod CircleTurns
