pub mod Valued
pub mod Running
pub mod Over
pub mod Shapes
pub mod Free
pub use Rattle.ps_type_text.specs as ps_type_text
pub use Rattle.ps_meaning.specs.ps_program as ps_program
pub use Rattle.ps_meaning.specs.ps_typing as ps_typing
pub use Rattle.ps_heap.specs as ps_heap
pub use Rattle.ps_meaning.specs as ps_meaning
