-- Laws of the records of a picture file.
pub mod Answered
pub mod CompleteRecords
pub mod Kept
pub mod PointsRecords
pub mod RecordSteps
