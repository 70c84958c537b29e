pub mod Kinds
pub mod Newline
pub mod Symbols
pub mod inside
pub use Rattle.ps_scan.specs as ps_scan
