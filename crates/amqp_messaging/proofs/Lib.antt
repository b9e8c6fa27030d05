pub mod MessageLemmas
pub mod SectionLemmas
