pub mod Flags
pub mod Views
pub mod Machines
pub mod Problems
pub use Rattle.version_formats.specs.Formats
