mod CornerLaws
mod DiscLaws
mod EndLaws
mod FacingLaws
mod FootRowLaws
mod FootLaws
pub mod GatherLaws
pub mod LeavingLinks
pub mod Lefts
mod LineParts
pub mod Listed
mod Readings
mod RowLaws
