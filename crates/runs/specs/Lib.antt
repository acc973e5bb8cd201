pub mod Alike
pub mod Begins
pub mod DeclaredTexts
pub mod Faults
pub mod Handed
pub mod Kept
pub mod Making
