pub mod Places
pub mod Rows
pub mod Steps
pub use Rattle.ps_scan.proofs as of_ps_scan
