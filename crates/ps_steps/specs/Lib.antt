pub mod inside
pub use Rattle.ps_checked.specs.ps_typing as ps_typing
pub use Rattle.ps_checked.specs.ps_scope as ps_scope
pub use Rattle.ps_checked.specs.ps_declared as ps_declared
pub use Rattle.ps_checked.specs as ps_checked
