pub mod Counted
pub mod Noted
pub mod Marked
pub mod Releasing
pub mod Kept
