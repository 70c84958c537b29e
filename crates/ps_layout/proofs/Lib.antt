mod Layouts
pub mod Printing
pub mod Views
pub use Rattle.ps_tree.proofs.of_ps_symbols as of_ps_symbols
