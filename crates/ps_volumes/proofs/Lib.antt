pub mod Settled
pub mod Refused
pub mod Moved
pub use Rattle.obj_store.proofs.of_volume_parts as of_volume_parts
pub use Rattle.obj_store.proofs.of_paged_volume as of_paged_volume
pub use Rattle.obj_store.proofs.of_obj_layout as of_obj_layout
pub use Rattle.obj_store.proofs as of_obj_store
pub use Rattle.volume_next.proofs as of_volume_next
pub use Rattle.ps_reports.proofs as of_ps_reports
