-- Laws on plain values that the functions' proofs, and crates above, cite; and the proof of specs/Rounding's statement.
pub mod Cases
pub mod Truncation
pub mod Sign
pub mod InDomain
pub mod DomainBits
pub mod Rounding
pub mod Numbers
pub mod Monotone
pub mod HalfAdded
pub mod WholePart
pub mod Samples
