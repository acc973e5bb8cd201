pub mod SoFar
pub mod Standing
pub mod Telling
pub mod Waiting
pub mod Whole
