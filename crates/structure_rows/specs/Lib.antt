pub mod Marks
pub mod Rows
pub mod inside
pub use Rattle.heap_places.specs.text_forms as text_forms
pub use Rattle.heap_places.specs.ps_heap as ps_heap
pub use Rattle.heap_places.specs.obj_layout as obj_layout
pub use Rattle.heap_places.specs.swizzle as swizzle
pub use Rattle.heap_places.specs as heap_places
