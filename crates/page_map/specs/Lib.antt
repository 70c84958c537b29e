pub mod Pages
pub mod Numbers
pub mod Map
pub mod Rows
pub mod inside
