pub mod Sizing
pub use Rattle.ps_typing.proofs as of_ps_typing
