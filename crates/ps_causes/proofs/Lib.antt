pub mod Converse
pub mod Showing
pub mod Reporting
pub use Rattle.ps_volumes.proofs.of_obj_store as of_obj_store
pub use Rattle.ps_volumes.proofs.of_ps_reports as of_ps_reports
pub use Rattle.ps_volumes.proofs as of_ps_volumes
