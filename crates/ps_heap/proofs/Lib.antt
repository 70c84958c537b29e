mod ScopeRows
mod TextRows
pub mod Scenes
mod TableRows
mod DatabaseRows
mod CommitRows
mod HomeRows
mod CountRows
mod AskRows
pub use Rattle.text_forms.proofs as of_text_forms
