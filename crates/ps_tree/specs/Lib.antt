pub mod Composing
pub mod Fault
pub mod Phrase
pub mod PhraseLists
pub use Rattle.ps_base.specs as ps_base
pub use Rattle.ps_symbols.specs.ps_scan as ps_scan
pub use Rattle.ps_symbols.specs as ps_symbols
