pub mod Links
pub mod Marks
pub mod Placed
pub mod Slots
pub mod Words
