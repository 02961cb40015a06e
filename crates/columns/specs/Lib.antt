-- What a reader must believe of columns of dots.
pub mod Columns
