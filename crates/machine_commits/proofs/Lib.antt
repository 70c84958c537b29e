pub mod Cleared
pub mod Moving
pub mod Naming
pub mod Silence
pub mod Pushing
pub mod Committing
pub mod Refusing
