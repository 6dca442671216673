pub mod ArrayLaws
pub mod EndLaws
