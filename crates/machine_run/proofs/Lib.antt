pub mod Telling
pub mod Loading
pub mod Dispatch
pub mod PlainCalls
pub mod Progress
pub mod Counting
pub mod Putting
pub mod Between
pub mod Single
pub use Rattle.machine_core.proofs.of_joint_ops as of_joint_ops
