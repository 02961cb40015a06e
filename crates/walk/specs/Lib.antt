-- What a reader must believe of clipping, of the walk and of the course.
pub mod Clip
pub mod Tabulate
pub mod Line
pub mod Walk
pub mod Course
pub mod Along
