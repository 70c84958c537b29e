pub mod Calls
pub use Rattle.joint_held.specs as joint_held
