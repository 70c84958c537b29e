pub mod ResultLaws
pub mod KnowLaws
pub mod OpenLaws
pub mod CreateLaws
