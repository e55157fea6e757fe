pub mod Lists
pub mod Guids
pub use Rattle.fw_facts.specs.Views
