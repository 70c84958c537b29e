pub mod Saving
pub mod Answers
pub use Rattle.joint_held.specs as joint_held
pub use Rattle.joint_reach.specs as joint_reach
pub use Rattle.space_meaning.specs as space_meaning
