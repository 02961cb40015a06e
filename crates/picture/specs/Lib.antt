-- What a reader must believe of the picture file: its bytes, the calls they stand for, what a whole file comes to, and the two theorems.
pub mod Opening
pub mod Stop
pub mod Drawn
pub mod Results
pub mod Run
pub mod Meaning
pub mod Encoding
pub mod Faithful
