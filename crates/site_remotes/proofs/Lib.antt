pub mod Sections
pub mod Telling
pub mod Merging
