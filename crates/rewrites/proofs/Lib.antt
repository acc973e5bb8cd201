pub mod AlikeLemmas
pub mod LeavesLemmas
pub mod NamedLemmas
pub mod Names
pub mod PartLemmas
pub mod PlainLemmas
pub mod ThinnedLemmas
pub mod Walks
