mod MeshFloors
pub mod FewLinks
pub mod NeverBack
pub mod UnfoldedBuilds
mod PathParts
pub mod HopStretches
