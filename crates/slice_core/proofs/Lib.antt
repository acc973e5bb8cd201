pub mod Tables
pub mod SumLemmas
pub mod Steps
pub mod MachineLemmas
pub mod RunSteps
