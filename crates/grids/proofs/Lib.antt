-- Laws of the store of cells, of words, patterns and charts and of a layer's dots, which the functions' proofs and crates above cite.
pub mod Cases
pub mod DotSizes
pub mod SymbolBounds
pub mod Words
pub mod CellStore
pub mod Patterns
pub mod DotsInCell
pub mod InkedCells
pub mod HalfCells
pub mod OneInk
pub mod Charts
