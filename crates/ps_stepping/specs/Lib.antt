pub mod Config
pub mod Steps
pub mod Jumps
pub mod Objects
pub mod Library
pub mod Scans
pub mod Procedures
pub mod Machine
pub mod Plain
pub mod Path
pub mod Effects
pub use Rattle.ps_meaning.specs.text_forms as text_forms
pub use Rattle.ps_heap.specs as ps_heap
pub use Rattle.ps_meaning.specs as ps_meaning
