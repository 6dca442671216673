pub mod HandSettings
pub mod Rows
pub mod TwoTiles
pub mod Stored
