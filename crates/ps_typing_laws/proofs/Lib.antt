pub mod Numbered
pub mod ByCheck
pub mod Covered
pub mod Scopes
pub mod RulePlaced
pub mod ByPlacing
pub mod OfProgram
mod Rows
mod ItemRows
pub mod Tracked
pub mod SameCounts
