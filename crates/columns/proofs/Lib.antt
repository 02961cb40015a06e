-- Laws of columns of dots, which the functions' proofs cite.
pub mod ColumnMasks
pub mod ColumnSteps
