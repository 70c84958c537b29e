pub mod Refusal
pub mod Steps
pub mod Running
pub mod Words
