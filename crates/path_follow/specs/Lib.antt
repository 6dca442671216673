pub mod Following
pub mod Lines
