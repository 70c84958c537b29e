pub mod Codes
pub mod inside
pub use Rattle.ps_base.specs as ps_base
