pub mod Corners
pub mod Rays
pub mod Ways
