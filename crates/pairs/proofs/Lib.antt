-- Laws of lists of pairs, scanned.
pub mod PairScans
