pub mod Forms
pub mod Classes
pub mod Places
pub mod Steps
pub mod Strict
pub mod inside
