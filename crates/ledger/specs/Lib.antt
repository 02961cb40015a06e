-- What a reader must believe of the canvas: the paper's own definitions, the calls', and the promise.
pub mod Calls
pub mod Screen
pub mod Labels
pub mod Ledger
pub mod Model
pub mod Answer
pub mod Pointed
pub mod Outcomes
pub mod PointCall
pub mod Promise
