pub mod Words
pub mod Squares
pub mod Places
pub mod Kept
pub mod Directions
pub mod DirectionLaws
pub mod Selections
pub mod FilterLaws
pub mod Found
pub mod Walkable
pub mod Stacks
pub mod Connected
pub mod CompactLaws
pub mod LayerLaws
pub mod AliveLaws
pub mod BoxLaws
pub mod PrismLaws
pub mod DiscLaws
pub mod ShapeLaws
pub mod TouchLaws
pub mod FreeLayers
pub mod Locality
pub mod Meeting
pub mod Literals
pub mod SmallCellLaws
mod ColumnParts
mod MarkLaws
pub mod CellRunLaws
