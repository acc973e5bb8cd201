pub mod Record
pub mod ReadBack
