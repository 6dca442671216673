pub mod Walk
pub mod Tables
