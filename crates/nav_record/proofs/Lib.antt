pub mod OneLineLaws
pub mod AppendLaws
pub mod AnswerLines
pub mod HopLines
pub mod WalkLines
