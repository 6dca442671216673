mod ListLaws
mod OrderLaws
mod PlacedLaws
mod SlimLaws
mod WholeLaws
