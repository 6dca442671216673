pub mod Spelling
pub mod Lanes
pub mod Limits
pub mod Forms
pub mod QuestionForms
pub mod RequestForms
pub mod WayForms
pub mod Reading
