pub mod MeshGraphs
pub mod Estimates
pub mod Islands
pub mod Landmarks
pub mod Changes
