pub mod OutcomeLaws
pub mod BroughtLaws
pub mod SeenLaws
pub mod TableLaws
pub mod OtherLaws
pub mod EnteredLaws
pub mod AnswerLaws
