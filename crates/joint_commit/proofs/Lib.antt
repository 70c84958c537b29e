pub mod SpaceLaws
pub mod NodeLaws
pub mod StoredLaws
pub mod HomeLaws
pub mod DirectoryLaws
pub mod TreeLaws
pub mod RunLaws
pub mod SaveLaws
