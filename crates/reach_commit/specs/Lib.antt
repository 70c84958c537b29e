pub mod Deciding
pub mod Becoming
pub mod Telling
pub mod Committing
pub mod Answers
pub mod Ready
pub use Rattle.commit_walk.specs as commit_walk
pub use Rattle.commit_images.specs as commit_images
pub use Rattle.joint_ops.specs as joint_ops
