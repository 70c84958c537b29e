pub mod FrameLaws
pub mod ProcedureLaws
pub mod ScopeLaws
pub mod KeptLaws
