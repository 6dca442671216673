pub mod RowLaws
pub mod Walls
