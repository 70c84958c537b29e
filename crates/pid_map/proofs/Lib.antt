pub mod ChainLaws
pub mod EmptyLaws
