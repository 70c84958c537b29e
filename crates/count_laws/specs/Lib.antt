pub mod Heavier
