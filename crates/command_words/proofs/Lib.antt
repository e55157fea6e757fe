pub mod Mapped
pub mod Made
