pub mod CrowdAgents
pub mod Placing
pub mod CrowdSteps
pub mod Runs
