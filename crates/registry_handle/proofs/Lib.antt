mod Words
mod Crossing
pub mod Endings
pub mod Solid
pub mod Saved
