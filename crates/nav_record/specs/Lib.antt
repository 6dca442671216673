pub mod Appending
pub mod OneLine
pub mod EntryTexts
pub mod StepTexts
pub mod AnswerTexts
pub mod FrameTexts
pub mod HopTexts
pub mod WalkTexts
