pub mod Fields
pub mod InputRead
pub mod Joined
pub mod Json
pub mod Lines
pub mod Reading
pub mod SoFar
