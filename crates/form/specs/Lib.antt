-- The form of a picture file's bytes.
pub mod Fields
pub mod Forms
pub mod Kinds
