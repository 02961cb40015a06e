-- Lists of pairs in bytes.
pub mod Lists
