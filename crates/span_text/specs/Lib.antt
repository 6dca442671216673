pub mod Words
pub mod FieldText
pub mod Header
pub mod Body
pub mod NextLine
pub mod FieldFormat
pub mod Outcome
pub mod LineFront
