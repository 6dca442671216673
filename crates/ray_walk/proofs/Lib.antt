mod ExitLaws
mod Members
mod LeavingLinks
mod Entering
mod Gathering
mod Visits
mod WalkLaws
