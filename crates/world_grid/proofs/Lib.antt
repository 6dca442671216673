pub mod NearestLaws
pub mod ValueLaws
pub mod StepLaws
pub mod Readings
pub mod ToldLaws
pub mod SizeLaws
pub mod StretchLaws
pub mod FrameLaws
