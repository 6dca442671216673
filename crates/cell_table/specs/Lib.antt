pub mod Columns
pub mod Mutual
pub mod Table
