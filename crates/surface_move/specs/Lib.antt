pub mod Moves
pub mod Ways
