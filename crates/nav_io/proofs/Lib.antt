mod Turns
mod Rests
pub mod Laws
