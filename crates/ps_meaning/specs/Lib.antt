pub mod Meaning
pub mod Frames
pub mod Operations
pub mod Loops
pub mod Evaluation
pub mod Calls
pub mod Runs
pub use Rattle.ps_base.specs as ps_base
pub use Rattle.ps_typing.specs.ps_program as ps_program
pub use Rattle.text_forms.specs as text_forms
pub use Rattle.ps_typing.specs as ps_typing
pub use Rattle.ps_heap.specs as ps_heap
