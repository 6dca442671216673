pub mod Growth
pub mod Locks
pub mod OneHistory
pub mod PairList
pub mod SeatViews
pub mod Turns
