pub mod FoundLemmas
pub mod LeadingLemmas
