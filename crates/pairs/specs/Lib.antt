-- What a reader must believe of lists of pairs: what stands past the last one.
pub mod Origin
