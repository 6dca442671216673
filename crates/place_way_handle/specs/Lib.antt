pub mod Finding
pub mod Joining
pub mod Snapping
pub mod Casting
