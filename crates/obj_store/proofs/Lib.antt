mod WordLaws
mod ReadLaws
mod WriteLaws
mod KeptLaws
mod LackLaws
mod SpaceLaws
mod TestLaws
mod ChangeLaws
mod HeldLaws
mod SettleLaws
mod FaultLaws
mod OpenLaws
mod ViewLaws
mod CallLaws
pub mod LeftLaws
pub use Rattle.volume_parts.proofs as of_volume_parts
pub use Rattle.paged_volume.proofs as of_paged_volume
pub use Rattle.obj_layout.proofs as of_obj_layout
pub mod LendLaws
