-- Laws of the loops over a canvas' cells and of cells that are saved and cleared, which the functions' proofs cite.
pub mod CellLoops
pub mod SavedCells
