pub mod inside
pub use Rattle.machine_core.specs.text_forms as text_forms
pub use Rattle.machine_core.specs.ps_outside as ps_outside
pub use Rattle.machine_core.specs.ps_heap as ps_heap
pub use Rattle.machine_core.specs.ps_meaning as ps_meaning
pub use Rattle.machine_core.specs.ps_stepping as ps_stepping
pub use Rattle.machine_core.specs.obj_layout as obj_layout
pub use Rattle.machine_core.specs.swizzle as swizzle
pub use Rattle.machine_core.specs.heap_texts as heap_texts
pub use Rattle.machine_core.specs.heap_places as heap_places
pub use Rattle.machine_core.specs.heap_ops as heap_ops
pub use Rattle.machine_core.specs.proc_values as proc_values
pub use Rattle.machine_core.specs.joint_ops as joint_ops
pub use Rattle.machine_core.specs.objects as objects
pub use Rattle.machine_core.specs.frame_stack as frame_stack
pub use Rattle.machine_core.specs as machine_core
