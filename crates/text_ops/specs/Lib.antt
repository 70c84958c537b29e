pub mod Spans
pub use Rattle.heap_texts.specs.text_forms as text_forms
pub use Rattle.heap_texts.specs.ps_outside as ps_outside
pub use Rattle.heap_texts.specs.ps_heap as ps_heap
pub use Rattle.heap_texts.specs.obj_area as obj_area
pub use Rattle.heap_texts.specs.obj_layout as obj_layout
pub use Rattle.heap_texts.specs.swizzle as swizzle
pub use Rattle.heap_texts.specs as heap_texts
