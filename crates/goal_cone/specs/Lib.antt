pub mod Bounds
pub mod Cone
pub mod Leaves
pub mod LeavesCode
pub mod Pass
pub mod Premises
pub mod Seen
pub mod Targets
