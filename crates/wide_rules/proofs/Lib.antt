pub mod AlikeLemmas
pub mod AskedLemmas
pub mod CoverLemmas
pub mod DeclaringLemmas
pub mod LiveLemmas
pub mod PartLemmas
pub mod ThroughLemmas
