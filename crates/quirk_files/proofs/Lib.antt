pub mod Loops
pub mod Readings
pub mod FileLines
pub mod Indexing
