pub mod Compact
pub mod Pieces
