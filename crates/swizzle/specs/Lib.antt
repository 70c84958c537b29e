pub mod Objects
pub mod Heap
pub mod Mapped
pub mod Greatest
pub mod Kept
pub mod View
pub mod Joint
pub mod Image
pub mod Numbered
pub mod Changes
pub mod Text
pub mod Touch
pub mod Reading
pub mod Fetched
pub mod Damaged
pub mod inside
pub use Rattle.obj_layout.specs.ps_outside as ps_outside
pub use Rattle.obj_area.specs as obj_area
pub use Rattle.obj_layout.specs as obj_layout
pub use Rattle.pid_map.specs as pid_map
