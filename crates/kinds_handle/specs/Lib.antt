pub mod KindSpans
pub mod KindSettings
pub mod KindsOpened
pub mod KindRequests
pub mod KindsSteps
pub mod KindRenewals
pub mod KindJobs
pub mod KindGroundChanges
