pub mod Sending
pub mod Buffered
pub use Rattle.obj_layout.specs as obj_layout
