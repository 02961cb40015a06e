-- What a reader must believe of the refusals: their numbers.
pub mod Refusals
