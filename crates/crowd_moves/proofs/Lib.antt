mod BeyondLaws
mod Readings
pub mod PairLaws
pub mod StepLaws
mod StandLaws
pub mod Elements
mod KeyedLaws
mod TurnLaws
mod GridLaws
mod FindingLaws
