pub mod Counted
pub mod Lengths
pub mod OneLine
pub mod Pieces
pub mod Short
pub mod Taken
