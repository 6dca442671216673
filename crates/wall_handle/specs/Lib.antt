pub mod Around
pub mod Walls
