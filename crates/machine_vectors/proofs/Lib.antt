pub mod Parts
pub mod ElementReads
pub mod ElementPuts
pub mod Types
pub mod WordsTaken
pub mod VectorFills
pub mod VectorLists
