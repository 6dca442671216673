mod Words
mod Crossing
pub mod Laying
mod JumpLaws
mod TwoWayViews
