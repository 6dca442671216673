pub mod Tiles
pub mod SharedCells
pub mod Neighbours
pub mod Nearby
