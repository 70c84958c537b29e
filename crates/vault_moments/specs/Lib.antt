pub use Rattle.commit_moments.specs as commit_moments
pub use Rattle.obj_layout.specs as obj_layout
