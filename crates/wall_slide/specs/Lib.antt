pub mod Around
pub mod Discs
pub mod Ends
pub mod Facing
pub mod Feet
pub mod Gathers
pub mod Rows
pub mod Slides
