-- how values are kept
pub mod Inline
pub mod LinkIndex
pub mod Extents
pub mod SmallNumbers
pub mod SmallExtents
pub mod SmallPolygons
pub mod Kept
-- a tile as strips
pub mod Runs
pub mod Strips
pub mod LinkOrder
pub mod StripPolygons
pub mod StripLinks
pub mod Crossings
pub mod StripRim
pub mod StripMeshes
pub mod StripCover
pub mod Passages
-- regions, their outlines, and a tile by these
pub mod Regions
pub mod Rings
pub mod Contours
pub mod Storeys
pub mod Reaches
pub mod Simplified
pub mod Choices
pub mod Rounds
pub mod Ears
pub mod Merging
pub mod Edges
pub mod Parts
pub mod Facets
pub mod Doors
pub mod DoorRim
pub mod ContourMeshes
-- the mesh of all tiles
pub mod BorderLinks
pub mod WholeMesh
pub mod Portals
pub mod FitTiles
pub mod Soundness
pub mod Builds
-- questions and their answers
pub mod Corridors
pub mod Located
pub mod Chains
pub mod Folds
pub mod Segments
pub mod Bends
pub mod Taut
pub mod Floors
pub mod Rays
pub mod Places
pub mod Standing
pub mod Right
pub mod Stretches
pub mod Hops
-- words that clauses share
pub mod Words
