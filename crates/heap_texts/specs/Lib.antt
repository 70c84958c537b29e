pub mod Texts
pub use Rattle.ps_heap.specs.text_forms as text_forms
pub use Rattle.swizzle.specs.ps_outside as ps_outside
pub use Rattle.ps_heap.specs as ps_heap
pub use Rattle.swizzle.specs.obj_area as obj_area
pub use Rattle.swizzle.specs.obj_layout as obj_layout
pub use Rattle.swizzle.specs as swizzle
