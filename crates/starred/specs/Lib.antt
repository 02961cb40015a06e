-- The starred bench samples of document 01.
pub mod Starred
