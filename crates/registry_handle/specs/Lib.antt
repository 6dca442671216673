pub mod Solids
pub mod Rows
pub mod Calls
pub mod Updates
pub mod Saves
