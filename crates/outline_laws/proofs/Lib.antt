mod HalfCells
mod UnitWalks
mod KeptCorners
mod UnitRings
mod ContourSteps
mod UncutOutlines
mod RingLiterals
mod OneCell
