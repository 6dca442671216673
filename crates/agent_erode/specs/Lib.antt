pub mod Reaching
pub mod Clearances
pub mod Runs
