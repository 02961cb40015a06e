-- What the contracts of the calls for C and Rust say, beyond what the lower crates define.
pub mod Calls
