pub mod Closings
pub mod Completions
pub mod Ends
pub mod Failures
pub mod Faults
pub mod Prefixes
pub mod Unique
pub use Rattle.ps_reader.proofs.of_ps_scan as of_ps_scan
pub use Rattle.ps_tree.proofs.of_ps_symbols as of_ps_symbols
