pub mod Codes
pub mod Leading
pub mod Snapshots
pub mod Timelines
