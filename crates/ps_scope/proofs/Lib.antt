mod Content
mod Found
mod Rows
pub use Rattle.ps_typing.proofs as of_ps_typing
