pub mod MovingLaws
pub use Rattle.paged_volume.proofs as of_paged_volume
