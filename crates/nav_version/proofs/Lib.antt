pub mod Adding
pub mod Beginnings
pub mod Looking
pub mod PatchLaws
pub mod PressLaws
pub mod VersionSteps
