pub mod Tables
pub use Rattle.joint_ops.specs as joint_ops
pub use Rattle.table_lib.specs as table_lib
