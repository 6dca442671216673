pub mod Inversions
pub mod LineLaws
pub mod FormLaws
pub mod ReadingLaws
pub mod AppendLaws
pub mod TextLaws
