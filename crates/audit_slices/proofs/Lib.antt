pub mod ReportLemmas
pub mod ThiefLemmas
pub mod MemberLemmas
pub mod RunLemmas
pub mod FinishLemmas
pub mod PoolLemmas
