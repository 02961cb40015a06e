-- What a reader must believe of a screen as bytes.
pub mod Bytes
pub mod Writer
pub mod Numbers
pub mod Screen
pub mod Listing
pub mod Utf8
pub mod Terminal
