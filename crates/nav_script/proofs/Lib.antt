pub mod LineLaws
pub mod LaneLaws
pub mod ReaderLaws
pub mod SpellingLaws
pub mod ScriptLaws
