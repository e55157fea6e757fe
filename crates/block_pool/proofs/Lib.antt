pub mod Hashing
pub mod Head
pub mod Moving
pub mod Same
pub mod Written
