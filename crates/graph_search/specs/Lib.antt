pub mod Walks
pub mod Entries
pub mod Visited
pub mod Searching
pub mod Explored
pub mod Exploring
