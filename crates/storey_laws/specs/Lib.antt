pub mod Built
pub mod FreeCells
pub mod HeldPlaces
pub mod PlacesTold
