pub mod Faults
pub mod inside
pub use Rattle.ps_scope.specs.ps_typing as ps_typing
pub use Rattle.ps_scope.specs as ps_scope
