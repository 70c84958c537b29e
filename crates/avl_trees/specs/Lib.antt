pub mod Trees
pub mod Leaning
pub mod Rising
pub mod Changes
pub mod Standing
