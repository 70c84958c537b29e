pub mod Chains
pub use Rattle.reaching.specs as reaching
