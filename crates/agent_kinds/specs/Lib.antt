pub mod Kinds
pub mod Firsts
pub mod KindSteps
pub mod KindOpenings
pub mod Representation
pub mod KindGrounds
