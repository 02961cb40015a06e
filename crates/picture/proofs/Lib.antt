-- Laws of a whole picture file, and the proofs of its two theorems.
pub mod RunSteps
pub mod Openings
pub mod Whole
pub mod ByteLists
pub mod PairBytes
pub mod ReadBack
pub mod WrittenBytes
pub mod RoundTrip
pub mod Faithful
