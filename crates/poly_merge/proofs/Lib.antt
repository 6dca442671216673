pub mod Walks
pub mod Unions
pub mod Listed
pub mod Choosing
pub mod Renewed
pub mod Apart
