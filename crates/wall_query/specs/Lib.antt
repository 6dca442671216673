pub mod AllWalls
pub mod Around
pub mod Lists
pub mod Parts
pub mod Walls
