pub mod Compared
pub mod Fresh
pub mod Lines
pub mod Neighbours
pub mod Denials
pub mod Upholding
