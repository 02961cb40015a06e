-- The records of a picture file.
pub mod Complete
pub mod Records
pub mod Step
pub mod Steps
