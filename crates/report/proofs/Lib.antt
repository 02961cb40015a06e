-- Laws of a blank screen and of what is printed, by a file's bytes alone; document 01's sample.
pub mod Blank
pub mod Prints
pub mod FromBytes
pub mod Ranges
pub mod Outcomes
pub mod Enough
pub mod SampleListing
