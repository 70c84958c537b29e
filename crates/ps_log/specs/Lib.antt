pub mod First
pub mod inside
