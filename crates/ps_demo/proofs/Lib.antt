mod Rows
pub mod Writing
pub mod Length
