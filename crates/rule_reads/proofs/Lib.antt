pub mod Chains
pub mod Fitting
pub mod Reading
