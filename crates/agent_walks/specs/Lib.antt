pub mod Marches
pub mod Walkers
pub mod Standings
pub mod Questions
