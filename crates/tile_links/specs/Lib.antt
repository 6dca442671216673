pub mod Across
pub mod RimPlaces
pub mod Loose
pub mod NewTiles
pub mod NearTiles
pub mod KeptLinks
pub mod Relinked
