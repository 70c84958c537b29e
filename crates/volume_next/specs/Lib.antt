pub mod Moving
pub use Rattle.paged_volume.specs as paged_volume
