pub mod Marks
pub mod Events
mod Followed
