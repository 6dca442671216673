mod NearestLaws
mod TileReach
pub mod Boxes
pub mod Reached
mod Scans
