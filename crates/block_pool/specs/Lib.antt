pub mod Bytes
pub mod Chains
pub mod Moves
pub mod Views
