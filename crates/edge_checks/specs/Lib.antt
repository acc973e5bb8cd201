pub mod Faults
pub mod Indexed
pub mod Sampled
