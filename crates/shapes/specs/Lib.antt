-- What a reader must believe of shapes.
pub mod Shapes
pub mod Drawing
