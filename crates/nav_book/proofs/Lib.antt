pub use Rattle.nav_book.proofs.GroundTiles
pub use Rattle.nav_book.proofs.Settled
pub mod Opening
pub mod Showing
pub mod GroundTiles
pub mod FreshTiles
mod FreshLists
pub mod StoredTiles
pub mod KeptTiles
pub mod NextGrounds
pub mod Settled
pub mod Differing
pub mod StepLaws
pub mod JobLaws
mod ShownAnswers
mod Passing
mod SameJobs
mod CallLaws
