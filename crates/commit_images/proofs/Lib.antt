pub mod CutLaws
pub mod StagingLaws
pub mod StoreLaws
pub mod OneLaws
pub mod SaveLaws
