pub mod Refusals
pub mod Records
pub mod inside
pub use Rattle.joint_held.specs as joint_held
