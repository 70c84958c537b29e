pub mod Lasting
pub mod Fields
pub mod Vectors
pub mod Bodies
pub mod Makes
pub mod Known
pub mod Inside
pub mod Classes
pub mod Putting
pub mod Entering
pub use Rattle.joint_ops.specs.text_forms as text_forms
pub use Rattle.joint_ops.specs.ps_outside as ps_outside
pub use Rattle.joint_ops.specs.ps_heap as ps_heap
pub use Rattle.joint_ops.specs.obj_layout as obj_layout
pub use Rattle.joint_ops.specs.swizzle as swizzle
pub use Rattle.joint_ops.specs.heap_texts as heap_texts
pub use Rattle.joint_ops.specs.heap_places as heap_places
pub use Rattle.joint_ops.specs.heap_ops as heap_ops
pub use Rattle.joint_ops.specs.proc_values as proc_values
pub use Rattle.structure_rows.specs as structure_rows
pub use Rattle.joint_ops.specs as joint_ops
pub use Rattle.joint_tables.specs as joint_tables
pub use Rattle.joint_held.specs as joint_held
