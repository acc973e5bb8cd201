pub mod Given
pub mod Sent
