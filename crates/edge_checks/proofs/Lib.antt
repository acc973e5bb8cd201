pub mod Indexing
pub mod Sampling
