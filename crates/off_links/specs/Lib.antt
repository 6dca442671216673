pub mod OffMeshLinks
pub mod Slots
pub mod HopGraphs
pub mod Questions
pub mod Pulling
