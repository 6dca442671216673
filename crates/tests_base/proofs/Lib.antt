mod Passes
mod RowGraphs
