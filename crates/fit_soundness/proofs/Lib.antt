pub mod Rooms
pub mod Levels
pub mod Standings
pub mod Declaring
pub mod Clauses
pub mod Bodies
pub mod Mentions
pub mod Narrowing
pub mod Cleaning
pub mod Starting
pub mod Ending
pub mod FitSame
pub mod Runs
pub mod Series
mod CommitRows
