pub mod Literals
pub mod Clauses
pub mod Steps
