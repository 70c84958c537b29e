pub use Rattle.ps_layout.proofs as of_ps_layout
