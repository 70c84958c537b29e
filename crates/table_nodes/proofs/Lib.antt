pub mod KeyLaws
pub mod SeenLaws
pub mod NodeLaws
pub mod Seeking
pub mod SoughtLaws
pub mod MakeLaws
pub mod MarkingLaws
pub mod Sparing
pub mod PutLaws
pub mod FollowLaws
pub mod Putting
pub mod Removal
pub mod StepLaws
pub mod TurnLaws
pub mod WingLaws
pub mod BringLaws
pub mod FetchLaws
pub mod HangLaws
pub mod FaultLaws
pub mod SpanLaws
pub use Rattle.heap_places.proofs as of_heap_places
pub use Rattle.avl_trees.proofs as of_avl_trees
