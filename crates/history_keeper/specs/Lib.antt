pub mod Changes
pub mod Histories
pub mod Keepers
pub mod Signs
pub mod Memories
pub mod Numbers
pub use Rattle.outer_traits.specs.Faults
pub use Rattle.outer_traits.specs.Plans
