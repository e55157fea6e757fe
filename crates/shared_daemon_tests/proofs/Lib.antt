pub mod Plays
pub mod Kept
pub mod Own
