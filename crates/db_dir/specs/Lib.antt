pub mod Directories
pub mod Entries
pub mod Found
pub mod Answers
pub use Rattle.joint_ops.specs as joint_ops
