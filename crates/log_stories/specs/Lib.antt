pub mod Plain
pub mod Stories
