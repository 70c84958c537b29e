pub mod Units
pub mod Scopes
pub mod Procedures
pub use Rattle.joint_ops.specs as joint_ops
