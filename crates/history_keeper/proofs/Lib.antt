pub mod Numbered
pub mod Prefixes
pub mod Following
pub mod Failures
