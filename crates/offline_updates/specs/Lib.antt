pub mod Waiting
pub use Rattle.history_keeper.specs.Histories
