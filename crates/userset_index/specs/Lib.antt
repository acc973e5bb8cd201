pub mod Building
pub mod Growth
pub mod Index
pub mod Lives
pub mod Moments
pub mod Objects
pub mod Spans
