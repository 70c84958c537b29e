pub mod Silent
pub mod Memory
pub mod Kept
pub mod Tested
pub mod MemoryView
pub use Rattle.obj_layout.specs as obj_layout
