pub mod Popping
pub mod Breaking
pub mod Giving
pub mod Reading
pub mod Parts
pub use Rattle.machine_core.proofs.of_text_forms as of_text_forms
pub use Rattle.machine_core.proofs.of_swizzle as of_swizzle
pub use Rattle.machine_core.proofs.of_heap_places as of_heap_places
pub use Rattle.machine_core.proofs.of_heap_ops as of_heap_ops
pub use Rattle.machine_core.proofs.of_heap_meaning as of_heap_meaning
pub use Rattle.machine_core.proofs.of_joint_ops as of_joint_ops
pub use Rattle.machine_core.proofs.of_objects as of_objects
pub use Rattle.machine_core.proofs as of_machine_core
