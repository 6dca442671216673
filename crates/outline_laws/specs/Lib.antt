pub mod UnitRings
pub mod UncutOutlines
