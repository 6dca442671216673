pub mod Gathering
pub mod GrowthLemmas
pub mod LockLemmas
pub mod Seats
pub mod Steps
pub mod TableLemmas
pub mod TurnsLemmas
