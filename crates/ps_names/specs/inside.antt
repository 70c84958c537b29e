pub mod Clauses
pub mod Chains
