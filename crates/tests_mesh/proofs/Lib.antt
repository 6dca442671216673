mod CellRows
pub mod HandSettings
pub mod Literals
pub mod RingLiterals
mod HandTiles
