pub mod Nowhere
pub mod Walk
pub mod Homes
pub use Rattle.swizzle.specs as swizzle
pub use Rattle.reaching.specs as reaching
