pub mod Spelling
pub mod Saved
pub mod Reading
