-- Laws of lists of pairs in bytes.
pub mod PairLists
pub mod PairParts
pub mod PairBlocks
