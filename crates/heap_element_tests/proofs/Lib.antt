pub mod StayLaws
pub mod NearLaws
