pub mod Spots
pub mod Draws
pub mod Sums
