pub mod NowhereLaws
pub mod GrowLaws
pub mod SteadyLaws
pub mod SlotLaws
pub mod HomeLaws
pub mod FromLaws
pub mod OnlyLaws
pub mod AllLaws
