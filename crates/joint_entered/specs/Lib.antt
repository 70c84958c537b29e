pub mod Entered
pub use Rattle.joint_held.specs as joint_held
pub use Rattle.joint_tables.specs as joint_tables
