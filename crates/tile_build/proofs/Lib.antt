pub mod KeptLayers
pub mod OneEdge
pub mod OneWay
pub mod NoneOverSides
pub mod LocalTiles
pub mod FreeInTile
pub mod BuildTotals
pub mod BuiltTiles
pub mod RimPairs
pub mod GroundTiles
pub mod TileFits
pub mod TwoWayTiles
mod PlainMeshes
