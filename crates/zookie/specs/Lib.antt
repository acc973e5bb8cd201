pub mod Reading
pub mod Tokens
