pub mod inside
pub use Rattle.ps_declared.specs.ps_typing as ps_typing
pub use Rattle.ps_declared.specs.ps_scope as ps_scope
pub use Rattle.ps_declared.specs as ps_declared
