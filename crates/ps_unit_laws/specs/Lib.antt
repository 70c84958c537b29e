pub mod Fields
pub mod OneUnit
pub use Rattle.ps_gen.specs.ps_base as ps_base
pub use Rattle.ps_gen.specs.ps_program as ps_program
pub use Rattle.ps_typing_laws.specs.ps_typing as ps_typing
pub use Rattle.ps_gen.specs as ps_gen
