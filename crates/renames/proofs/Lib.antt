pub mod RenameLaws
pub mod TableLaws
pub mod RowLaws
pub mod RehomeLaws
pub mod NumberedLaws
