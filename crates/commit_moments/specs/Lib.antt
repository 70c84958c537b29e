pub mod Steps
pub mod Shown
pub mod Numbers
pub mod Like
pub use Rattle.ps_outside.specs as ps_outside
