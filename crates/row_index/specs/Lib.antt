pub mod Formers
pub mod Rows
pub mod Indexes
pub use Rattle.history_keeper.specs.Changes
pub use Rattle.history_keeper.specs.Histories
pub use Rattle.history_keeper.specs.Numbers
