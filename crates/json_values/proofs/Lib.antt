pub mod InRange
pub mod LookUps
pub mod Numerals
pub mod Passing
pub mod Whole
