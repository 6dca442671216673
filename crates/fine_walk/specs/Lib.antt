pub mod FineRays
pub mod Stays
pub mod Passing
pub mod Laws
