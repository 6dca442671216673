pub mod Columns
pub mod Areas
pub mod Gaps
pub mod Looks
