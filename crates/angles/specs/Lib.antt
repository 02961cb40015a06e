-- What a reader must believe of the circle's angles.
pub mod Angles
