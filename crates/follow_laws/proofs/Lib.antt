pub mod ByLineLemmas
pub mod FirstLemmas
pub mod FollowedLemmas
pub mod LineLemmas
pub mod OnceLemmas
pub mod StaysLemmas
pub mod ThroughLemmas
pub mod ToldLemmas
