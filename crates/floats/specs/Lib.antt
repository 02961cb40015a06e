-- What a reader must believe of the float operations.
pub mod Arithmetic
pub mod Rounding
pub mod Truncation
pub mod Methods
pub mod Polyfills
pub mod Domain
pub mod Samples
