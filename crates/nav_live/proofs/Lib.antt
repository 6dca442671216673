mod LaneLineLaws
mod JoinLaws
mod FullLaws
mod Writing
mod Catching
mod RunLaws
mod ActorLaws
mod EndLaws
mod LeftLaws
mod ActLaws
mod TouchedLaws
mod JobLaws
pub mod EntryLaws
pub mod AnswerLaws
pub mod RecordLaws
mod PassLaws
mod WalkLaws
mod LaneLaws
