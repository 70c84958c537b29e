pub mod Spelled
pub mod Putting
pub mod ChoiceWidths
pub mod Steps
pub mod Signatures
pub mod Chaining
