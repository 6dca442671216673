mod CorridorMeshes
mod PartMeshes
mod PlaceMeshes
mod FlatFields
pub mod OneTilePatches
