pub mod Emission
pub mod Units
pub mod inside
pub use Rattle.ps_base.specs as ps_base
pub use Rattle.ps_emitter.specs.ps_type_text as ps_type_text
pub use Rattle.ps_program.specs as ps_program
pub use Rattle.ps_emitter.specs.ps_typing as ps_typing
pub use Rattle.ps_emitter.specs as ps_emitter
