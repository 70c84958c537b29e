pub mod HoldingLaws
pub mod PutLaws
