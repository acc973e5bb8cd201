pub mod Carrying
pub mod Files
pub mod Opened
pub mod Outcomes
pub mod Run
pub mod Runs
pub mod Words
