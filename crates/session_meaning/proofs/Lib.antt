pub mod Splitting
pub mod Showing
pub mod Beginning
pub mod Following
