pub mod Asked
pub mod AskedCode
pub mod AskedFact
pub mod Declaring
pub mod Kept
