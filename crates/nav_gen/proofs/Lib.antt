pub mod DrawLaws
pub mod Gathered
pub mod Short
pub mod FieldLaws
pub mod ScriptLaws
pub mod FieldTexts
pub mod RoundTexts
pub mod TextLaws
