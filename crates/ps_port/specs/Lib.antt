pub mod Disk
pub mod DiskLaws
pub mod FileView
pub mod Telling
pub mod Texts
pub mod MemoryTexts
pub use Rattle.ps_base.specs as ps_base
pub use Rattle.ps_outside.specs as ps_outside
