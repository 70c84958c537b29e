pub mod Held
pub use Rattle.commit_moments.specs as commit_moments
pub use Rattle.obj_store.specs as obj_store
