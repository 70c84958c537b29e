pub mod NoObjects
pub use Rattle.obj_layout.specs as obj_layout
