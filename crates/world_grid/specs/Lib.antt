pub mod Grid
pub mod FloatParts
pub mod Frames
pub mod Places
