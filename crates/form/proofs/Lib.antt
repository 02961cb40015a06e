-- Laws of the form of a picture file's bytes.
pub mod Bits
pub mod FloatBits
pub mod Numbers
pub mod FormSteps
pub mod FieldSteps
