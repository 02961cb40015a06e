-- What a reader must believe of dots, lines and filled lines painted.
pub mod Painted
pub mod HeldWords
