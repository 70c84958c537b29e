pub mod Kept
pub mod Ran
pub mod inside
pub use Rattle.commit_moments.specs as commit_moments
pub use Rattle.machine_core.specs as machine_core
pub use Rattle.machine_commits.specs as machine_commits
