pub mod Made
pub mod Making
pub mod Own
pub mod Saturation
pub mod Settled
