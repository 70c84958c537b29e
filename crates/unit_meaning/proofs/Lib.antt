mod Objects
mod Calls
mod Clauses
mod Saving
mod Compact
mod Meant
