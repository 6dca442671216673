pub mod LengthLaws
mod Measures
mod Turns
mod Pulled
mod WalkLaws
