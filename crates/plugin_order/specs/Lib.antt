pub mod Chains
pub mod Sheets
pub mod Table
pub mod Heights
pub mod Arranged
