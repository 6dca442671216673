pub mod Halves
pub mod Rounds
