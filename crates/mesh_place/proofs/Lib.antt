mod Spans
mod Nearer
mod Rows
mod FloorPlaces
pub mod Squares
pub mod HeldLaws
mod LineParts
mod SearchLaws
mod BoundLaws
mod Earlier
mod ScanLaws
pub mod OneNearest
mod TileScan
mod TileRows
