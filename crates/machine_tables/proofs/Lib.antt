pub mod Calls
pub mod Parts
pub mod Endings
pub mod Uses
pub mod Lasts
pub mod Handing
pub mod Going
