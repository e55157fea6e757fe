pub mod LogScans
pub mod Plainly
pub mod Growing
pub mod Booting
pub mod Asking
pub mod Staying
