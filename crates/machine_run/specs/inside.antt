pub mod Beginning
pub mod Advancing
pub mod Blanks
