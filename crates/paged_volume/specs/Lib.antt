pub mod Layout
pub mod Found
pub mod Pinning
pub mod Standing
pub mod Attaching
pub mod Naming
pub mod Staging
pub mod Switching
pub mod Changing
pub mod Planning
pub mod Committing
pub mod Making
pub mod Opening
pub use Rattle.volume_parts.specs as volume_parts
