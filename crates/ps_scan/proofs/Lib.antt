pub mod Closing
mod Examples
mod FaultLines
pub mod Laws
mod Lines
pub mod Named
mod Runs
pub mod Scanning
mod Spelling
mod Strings
