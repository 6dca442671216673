pub mod Coordinates
pub mod Corners
pub mod PassedOver
pub mod Looks
pub mod Closings
pub mod NextCorners
pub mod Passings
pub mod Wedges
