pub mod Attaching
pub mod Making
pub use Rattle.obj_store.specs.volume_parts as volume_parts
pub use Rattle.obj_store.specs.paged_volume as paged_volume
pub use Rattle.obj_store.specs.obj_layout as obj_layout
pub use Rattle.obj_store.specs as obj_store
pub use Rattle.volume_next.specs as volume_next
pub use Rattle.ps_reports.specs as ps_reports
