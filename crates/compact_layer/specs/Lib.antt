pub mod Columns
pub mod Stacks
pub mod Making
pub mod Places
