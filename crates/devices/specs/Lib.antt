pub mod Devices
pub mod Given
pub mod Moved
pub mod Moves
