pub mod Kind
pub mod Reference
pub mod Header
pub mod Objects
pub mod Stored
pub mod Storing
pub use Rattle.ps_outside.specs as ps_outside
