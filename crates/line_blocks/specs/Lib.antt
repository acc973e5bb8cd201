pub mod Blocks
pub mod Parts
pub mod Reads
pub mod Shares
pub mod Values
