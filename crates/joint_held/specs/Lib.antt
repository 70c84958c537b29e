pub mod Held
pub mod Keeping
pub mod Writing
pub mod Entering
pub mod Opening
pub use Rattle.joint_ops.specs as joint_ops
pub use Rattle.db_dir.specs as db_dir
pub use Rattle.reach_commit.specs as reach_commit
