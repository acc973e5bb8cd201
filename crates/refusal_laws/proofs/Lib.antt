pub mod CommitCauses
pub mod EntryCauses
pub mod Faults
pub mod Least
pub mod Parts
pub mod RecordCauses
