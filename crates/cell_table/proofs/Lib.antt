pub mod Mutuals
pub mod Places
pub mod Tables
