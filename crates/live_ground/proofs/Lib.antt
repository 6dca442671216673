pub mod Unreached
pub mod Ordered
pub mod Windows
pub mod Merges
pub mod Changed
pub mod Reached
