-- Where the table has each angle's cosine and sine, and their sizes, which crates above cite.
pub mod AnglePlaces
pub mod AngleSizes
