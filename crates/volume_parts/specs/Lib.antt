pub mod Layout
pub mod Holding
pub mod Calls
pub mod Making
