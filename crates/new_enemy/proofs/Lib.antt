pub mod CarryRuns
pub mod CarryStatuses
pub mod DeviceStatuses
pub mod FileRuns
pub mod FileStatuses
pub mod JoinedRuns
pub mod RunLemmas
pub mod Statuses
