pub mod Names
pub mod Lines
pub mod Decimals
pub mod Digests
pub mod Padded
