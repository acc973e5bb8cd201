pub mod Machine
pub mod Named
pub mod Opening
pub mod Places
pub mod Runs
