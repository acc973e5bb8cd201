pub mod AskedFact
pub mod Decided
pub mod Facts
pub mod Judgement
pub mod KnownCode
pub mod Passes
pub mod StoredIn
