pub mod Statuses
pub mod Helps
