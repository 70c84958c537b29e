pub mod WordLemmas
pub mod ReadLemmas
pub mod ClapRules
pub mod GivenLemmas
pub mod GivenWalk
pub mod GivenReads
mod WordsOfRuns
mod WordsRefused
mod WordsOfAll
pub use Rattle.ps_scan.proofs as of_ps_scan
