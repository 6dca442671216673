pub mod Filtering
pub mod Reading
pub mod Planning
pub mod Flooding
pub mod Checking
pub mod Nearing
pub mod Followers
pub mod Repairing
