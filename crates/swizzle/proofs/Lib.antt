pub mod ObjectLaws
pub mod HeapLaws
pub mod NotedLaws
pub mod GreatestLaws
pub mod ChainedLaws
pub mod KeptLaws
pub mod HeaderLaws
pub mod ClearLaws
pub mod TextLaws
pub mod NameLaws
pub mod JointLaws
pub mod TouchLaws
pub mod MarkLaws
pub mod StandLaws
pub mod FetchedLaws
pub mod ReadingLaws
pub mod MadeLaws
pub mod ImageLaws
pub mod NumberedLaws
pub mod DamageLaws
pub use Rattle.obj_area.proofs as of_obj_area
pub use Rattle.obj_layout.proofs as of_obj_layout
pub use Rattle.pid_map.proofs as of_pid_map
