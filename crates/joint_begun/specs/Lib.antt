pub mod Beginning
pub use Rattle.joint_held.specs as joint_held
pub use Rattle.space_meaning.specs as space_meaning
