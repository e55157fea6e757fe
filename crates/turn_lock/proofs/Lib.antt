pub mod Counting
pub mod Others
pub mod Turns
pub mod Passes
pub mod Ends
pub mod Fields
pub mod Gathering
