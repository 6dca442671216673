pub mod Members
pub mod Pages
pub mod Writing
pub mod Closing
pub mod Relaxing
pub mod Stopping
pub mod WayBack
pub mod Turns
pub mod ReachedLists
mod Listing
pub mod ReachedWalks
pub mod Moves
mod Slots
mod Lists
mod Queues
