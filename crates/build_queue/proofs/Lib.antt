pub mod Words
pub mod Leasts
pub mod SameShapes
pub mod BookLaws
pub mod FlagLaws
mod WordLaws
pub mod Touched
pub mod Meetings
pub mod Keeping
pub mod Rows
pub mod Tables
pub mod Histories
pub mod Renewals
