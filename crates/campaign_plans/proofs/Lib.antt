pub mod FirstPlanned
pub mod Lines
pub mod Installs
