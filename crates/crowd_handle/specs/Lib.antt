pub mod Statuses
pub mod Agents
pub mod Granting
pub mod Entering
pub mod Leading
pub mod CrowdSteering
pub mod Stepping
pub mod Slimming
