pub mod Products
pub mod GentleLaws
pub mod AxisLaws
pub mod WalkLaws
pub mod PointLaws
pub mod AddLaws
