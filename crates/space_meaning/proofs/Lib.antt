pub mod Seen
pub mod Cutting
pub mod Trees
pub mod Renamed
pub mod SameHeaps
pub mod Without
pub mod KeptLaws
pub mod UnitLaws
pub mod StandLaws
pub mod Worked
mod ProcedureRows
mod TableRows
mod SharedRows
mod UnfitRows
pub use Rattle.heap_meaning.proofs as of_heap_meaning
