pub mod Seeing
pub mod Writing
pub mod World
pub mod Operands
pub mod Made
pub mod Code
pub use Rattle.heap_meaning.specs.text_forms as text_forms
pub use Rattle.heap_meaning.specs.ps_outside as ps_outside
pub use Rattle.heap_meaning.specs.ps_heap as ps_heap
pub use Rattle.heap_meaning.specs.obj_area as obj_area
pub use Rattle.heap_meaning.specs.obj_layout as obj_layout
pub use Rattle.heap_meaning.specs.swizzle as swizzle
pub use Rattle.heap_meaning.specs.heap_texts as heap_texts
pub use Rattle.heap_meaning.specs.heap_places as heap_places
pub use Rattle.heap_meaning.specs.heap_ops as heap_ops
pub use Rattle.heap_meaning.specs.proc_values as proc_values
pub use Rattle.heap_meaning.specs as heap_meaning
