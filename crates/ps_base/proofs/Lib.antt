pub mod Units
pub mod Spellings
pub mod TyLemmas
