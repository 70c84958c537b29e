pub mod Answers
pub mod Declaring
pub mod Looks
pub mod Meant
pub mod Views
