mod SpaceLaws
mod PlacingLaws
pub mod MovedLaws
mod RunLaws
mod StepParts
