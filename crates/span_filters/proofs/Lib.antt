pub mod Neighbours
pub mod Stacks
pub mod Verdict
pub mod OneMoreSpan
pub mod ReadSpans
