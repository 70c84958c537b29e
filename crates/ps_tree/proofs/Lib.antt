pub mod PhraseLemmas
pub use Rattle.ps_symbols.proofs as of_ps_symbols
