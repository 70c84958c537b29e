pub mod SeenLaws
pub mod ReachedLaws
pub mod RowLaws
pub mod DirectoryLaws
pub mod CompactLaws
pub mod BeginLaws
