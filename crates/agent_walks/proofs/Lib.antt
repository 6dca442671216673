mod CorridorParts
mod LineLaws
mod Arrivals
