pub mod Statuses
pub mod Frames
pub mod Points
pub mod Settings
pub mod Meshes
pub mod Ends
