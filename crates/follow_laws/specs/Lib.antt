pub mod Begun
pub mod ByLine
pub mod Followed
pub mod Through
pub mod Told
