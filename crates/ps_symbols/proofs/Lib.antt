mod Examples
pub mod SymbolLemmas
