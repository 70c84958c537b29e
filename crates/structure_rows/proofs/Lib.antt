pub mod Counted
pub mod RowLaws
pub mod RowsLaid
pub use Rattle.heap_places.proofs as of_heap_places
