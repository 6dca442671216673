pub mod Draws
pub mod MadeField
pub mod MadeScript
pub mod MadeText
pub mod Summary
