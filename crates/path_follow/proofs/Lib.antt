mod Standings
mod Ends
mod Ahead
