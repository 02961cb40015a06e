-- Demand 3 of the calls of this crate, and what their proofs share.
pub mod Promise
pub mod Refusing
