pub mod Slopes
pub mod Axes
pub mod Meshes
pub mod Points
pub mod Triangles
pub mod Adding
