pub mod Committing
pub mod inside
pub use Rattle.machine_core.specs as machine_core
pub use Rattle.machine_databases.specs as machine_databases
pub use Rattle.joint_commit.specs as joint_commit
