pub mod Digits
pub mod Spellings
