pub mod Searches
pub mod PairLemmas
pub mod IndexLemmas
pub mod OrderLemmas
pub mod HashPlaces
pub mod DigitLemmas
pub mod EditLemmas
pub mod EntryLemmas
