pub mod RoundLaws
pub mod Rows
mod RefusedRows
mod HeapRows
pub mod InOrder
pub mod TypedFits
pub mod TypedPrograms
pub mod Mentioned
pub mod MoreInScope
pub mod KeptDatabases
pub mod KeptCalls
pub mod GoodSteps
pub mod GoodCalls
pub mod GoodRuns
