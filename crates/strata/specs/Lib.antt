pub mod Changes
pub mod Decisions
pub mod Edges
pub mod Laws
pub mod Meaning
pub mod Sights
pub mod Strata
