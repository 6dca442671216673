pub mod Indexed
pub mod Strips
