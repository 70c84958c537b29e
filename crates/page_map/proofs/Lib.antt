pub mod PageLaws
pub mod NumberLaws
pub mod MapLaws
pub mod LooseLaws
pub mod MarkLaws
pub mod ReadLaws
pub mod RoundLaws
