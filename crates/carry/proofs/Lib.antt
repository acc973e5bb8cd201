pub mod CarryLaws
pub mod FieldLaws
pub mod Loop
pub mod Numbers
pub mod Opened
