pub mod Limits
pub use Rattle.emulated_boards.specs.Plans
