pub mod Lists
pub mod Shown
pub mod Views
pub mod Steps
pub mod Rule
pub mod Fields
