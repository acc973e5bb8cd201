pub mod EvidenceCauses
pub mod LeastCause
pub mod LeastFault
pub mod Leftmost
pub mod TraceCauses
