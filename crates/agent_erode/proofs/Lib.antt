pub mod Stages
pub mod Gaps
pub mod Walks
pub mod Reaches
pub mod Rounds
pub mod WindowLaws
mod RunLaws
pub mod Selected
pub mod Marked
