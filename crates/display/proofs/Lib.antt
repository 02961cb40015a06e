-- Laws of the rows that `lay` puts on the screen, which its functions' proofs cite.
pub mod Rows
