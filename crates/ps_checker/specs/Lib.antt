pub use Rattle.ps_steps.specs.ps_scope as ps_scope
pub use Rattle.ps_steps.specs.ps_declared as ps_declared
