pub mod Giving
pub use Rattle.joint_ops.specs as joint_ops
