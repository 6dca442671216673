pub mod ToldEntries
pub mod AliveBetween
pub mod ToldShapes
pub mod ToldTiles
pub mod SameShapes
pub mod SameTiles
