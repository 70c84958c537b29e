pub mod Rows
pub mod RunLaws
pub mod RefRows
pub mod Words
pub mod Naming
pub mod Popping
pub mod Jumping
pub mod Between
pub mod Callers
pub mod Arguments
pub mod Handing
pub mod Carrying
pub mod Failing
pub mod Calling
pub mod Returning
pub mod Lines
pub use Rattle.ps_stepping.proofs.of_ps_code as of_ps_code
pub use Rattle.joint_ops.proofs.of_text_forms as of_text_forms
pub use Rattle.joint_ops.proofs.of_swizzle as of_swizzle
pub use Rattle.joint_ops.proofs.of_heap_places as of_heap_places
pub use Rattle.joint_ops.proofs.of_heap_ops as of_heap_ops
pub use Rattle.joint_ops.proofs.of_proc_values as of_proc_values
pub use Rattle.joint_ops.proofs.of_heap_meaning as of_heap_meaning
pub use Rattle.joint_ops.proofs as of_joint_ops
pub use Rattle.objects.proofs as of_objects
