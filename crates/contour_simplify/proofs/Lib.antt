pub mod Bests
pub mod Deviations
pub mod Mirrored
pub mod Halving
pub mod Edges
pub mod Rising
pub mod Outlines
pub mod Searches
