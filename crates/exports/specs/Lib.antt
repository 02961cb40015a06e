-- What a reader must believe of the functions over files, screens and points for C and Rust, beyond what the lower crates define.
pub mod Draw
pub mod GetPoint
