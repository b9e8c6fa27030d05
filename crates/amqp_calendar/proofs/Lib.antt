pub mod SignedRules
pub mod MonthLemmas
pub mod YearLemmas
pub mod OneDate
pub mod DateOfLemmas
pub mod PaddingLemmas
pub mod BlockLemmas
