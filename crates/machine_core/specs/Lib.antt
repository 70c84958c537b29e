pub mod Rows
pub mod Waiting
pub mod Words
pub mod Items
pub mod Naming
pub mod Holding
pub mod Full
pub mod Failing
pub mod Stepped
pub mod Calling
pub mod Reading
pub mod inside
pub use Rattle.ps_stepping.specs.ps_heap as ps_heap
pub use Rattle.ps_stepping.specs.ps_meaning as ps_meaning
pub use Rattle.ps_stepping.specs as ps_stepping
pub use Rattle.joint_ops.specs.text_forms as text_forms
pub use Rattle.joint_ops.specs.ps_outside as ps_outside
pub use Rattle.joint_ops.specs.obj_layout as obj_layout
pub use Rattle.joint_ops.specs.swizzle as swizzle
pub use Rattle.joint_ops.specs.heap_texts as heap_texts
pub use Rattle.joint_ops.specs.heap_places as heap_places
pub use Rattle.joint_ops.specs.heap_ops as heap_ops
pub use Rattle.joint_ops.specs.proc_values as proc_values
pub use Rattle.joint_ops.specs as joint_ops
pub use Rattle.joint_held.specs as joint_held
pub use Rattle.objects.specs as objects
pub use Rattle.frame_stack.specs as frame_stack
