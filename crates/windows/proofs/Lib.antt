pub mod AlikeLemmas
mod Rising
pub mod CompactionLemmas
pub mod NearestLemmas
pub mod WindowLemmas
pub mod WindowsLemmas
pub mod CarriedLemmas
pub mod CutLemmas
pub mod ShownLemmas
pub mod MergedLemmas
pub mod GrowthLemmas
pub mod GrownLemmas
pub mod WholeLemmas
pub mod SettledLemmas
