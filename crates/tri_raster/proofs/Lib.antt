pub mod TextLaws
mod ShadowLaws
mod LinkLaws
mod GroupLaws
mod ActiveLaws
mod SweepLaws
pub mod RasterLaws
mod Cuts
mod Divisions
mod Places
mod Parts
mod Heights
mod Noted
mod Crossed
mod Gathered
mod Ends
mod Assembled
mod Puts
mod Spans
mod Cells
mod Points
mod Shadows
