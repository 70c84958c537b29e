pub mod Marking
pub mod Keeping
pub mod Choosing
pub mod Spots
pub mod Steps
pub mod Entering
pub mod Unnested
