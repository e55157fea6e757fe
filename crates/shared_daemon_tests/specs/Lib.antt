pub mod Waits
pub use Rattle.history_keeper.specs.Signs
