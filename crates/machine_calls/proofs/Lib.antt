pub mod Fetching
pub mod Constants
pub mod Current
pub mod Making
pub mod CalledBodies
pub mod KeptNames
