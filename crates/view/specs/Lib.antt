-- What a reader must believe of points, and the limits of document 01.
pub mod Limits
pub mod Point
