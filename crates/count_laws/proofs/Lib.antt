mod Like
mod Calls
pub mod Clauses
