pub mod GoesLemmas
pub mod PartsLemmas
pub mod TogetherLemmas
