-- What a reader must believe of markers, symbols, cells and layers.
pub mod Lists
pub mod Markers
pub mod Symbols
pub mod Dots
pub mod Cells
pub mod Painting
pub mod Layer
