pub mod Spaces
pub mod Words
pub mod Kept
pub mod Lacking
pub mod Staging
pub mod Tested
pub mod Store
pub mod StoreView
pub mod StoreLaws
pub mod Opening
pub mod Viewing
pub mod Lending
pub mod Calls
pub use Rattle.paged_volume.specs as paged_volume
pub use Rattle.volume_parts.specs as volume_parts
pub use Rattle.obj_layout.specs as obj_layout
