pub mod IndexLemmas
pub mod LedLemmas
pub mod MarkedLemmas
pub mod PassLemmas
pub mod StoredLemmas
pub mod TableLemmas
