pub mod Statuses
pub mod Places
pub mod Nearing
pub mod Heights
pub mod Checking
pub mod Drawing
pub mod Sliding
