pub mod Acting
pub mod Loaded
pub mod Ran
pub mod inside
pub use Rattle.machine_core.specs.ps_heap as ps_heap
pub use Rattle.machine_core.specs.ps_meaning as ps_meaning
pub use Rattle.machine_core.specs.ps_stepping as ps_stepping
pub use Rattle.vault_output.specs.obj_layout as obj_layout
pub use Rattle.machine_core.specs.swizzle as swizzle
pub use Rattle.machine_core.specs as machine_core
