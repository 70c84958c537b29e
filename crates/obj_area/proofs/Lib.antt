pub mod WordLaws
pub mod AreaLaws
mod SpellingLaws
mod SeenLaws
