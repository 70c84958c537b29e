pub mod Images
pub mod Staging
pub mod Saved
pub mod Stored
pub use Rattle.commit_walk.specs as commit_walk
pub use Rattle.swizzle.specs as swizzle
