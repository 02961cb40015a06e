-- What a reader must believe of the calls' results: the answers that they stand for.
pub mod Results
