pub mod AreasLeft
pub mod Columns
pub mod Near
pub mod Places
