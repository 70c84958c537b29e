mod Rows
pub mod NodeLists
pub mod PartLemmas
pub mod NodeSteps
