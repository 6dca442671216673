pub mod BodyLaws
pub mod HeaderLaws
pub mod BodyLineLaws
pub mod FoundLaws
pub mod OnlyLaws
pub mod FieldLaws
pub mod FrontLaws
pub mod NextLineLaws
mod OnePassLaws
mod LineLaws
