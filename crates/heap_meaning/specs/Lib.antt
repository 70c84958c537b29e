pub mod Units
pub mod Values
pub mod Tables
pub mod Standing
pub mod Denoting
pub mod Paired
pub use Rattle.proc_values.specs.ps_base as ps_base
pub use Rattle.proc_values.specs.text_forms as text_forms
pub use Rattle.proc_values.specs.ps_outside as ps_outside
pub use Rattle.proc_values.specs.ps_heap as ps_heap
pub use Rattle.proc_values.specs.obj_area as obj_area
pub use Rattle.proc_values.specs.obj_layout as obj_layout
pub use Rattle.proc_values.specs.swizzle as swizzle
pub use Rattle.proc_values.specs.heap_texts as heap_texts
pub use Rattle.heap_ops.specs.heap_places as heap_places
pub use Rattle.heap_ops.specs as heap_ops
pub use Rattle.proc_values.specs as proc_values
pub use Rattle.node_rows.specs as node_rows
pub use Rattle.node_rows.specs.avl_trees as avl_trees
