pub mod Causes
pub mod Programs
pub mod Events
pub mod Loading
pub mod Running
pub mod Leaving
