pub mod Layout
pub mod Lexemes
pub mod Spellings
pub mod Waiting
pub mod Weights
pub use Rattle.ps_base.specs as ps_base
pub use Rattle.ps_tree.specs.ps_scan as ps_scan
pub use Rattle.ps_tree.specs.ps_symbols as ps_symbols
pub use Rattle.ps_tree.specs as ps_tree
