pub mod KeptPaths
pub mod Beginnings
pub mod Repairs
pub mod Splices
