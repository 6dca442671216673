pub mod CorridorMesh
pub mod PartMesh
pub mod PlaceMesh
pub mod SmallChains
pub mod OneTile
