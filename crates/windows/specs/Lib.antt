pub mod Alike
pub mod Compaction
pub mod Merged
pub mod Nearest
pub mod Windows
pub mod Cuts
pub mod Growth
pub mod Together
