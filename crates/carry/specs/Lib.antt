pub mod Faults
pub mod Fields
pub mod Opening
pub mod Reading
pub mod Refused
pub mod Texts
pub mod Values
