pub mod Telling
pub mod Operators
pub mod Notion
pub mod Growing
pub mod Places
pub mod Fields
pub mod Names
pub mod Scopes
pub mod Standings
pub mod Combining
pub mod Tables
mod Errors
pub mod Calling
pub mod InScopes
pub mod Objects
pub mod Loops
pub mod Sequences
pub mod HeapCalls
pub mod Library
pub mod Scans
pub mod Reading
pub mod Valued
pub mod Rules
pub mod Running
pub mod Declaring
pub mod Clauses
mod Rows
pub mod Within
pub mod Bodies
mod ScopeRows
