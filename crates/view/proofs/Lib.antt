-- Laws of a point's dot, and that the clamp never acts in the domain, which the functions' proofs and crates above cite.
pub mod DotPlaces
pub mod ClampIdle
pub mod RegularView
