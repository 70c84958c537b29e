pub mod Leaves
pub mod LeavesRead
pub use Rattle.ps_parse.proofs.of_ps_scan as of_ps_scan
pub use Rattle.ps_parse.proofs.of_ps_symbols as of_ps_symbols
