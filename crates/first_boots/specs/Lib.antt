pub mod FirstBoot
pub use Rattle.emulated_boards.specs.Boards
pub use Rattle.emulated_boards.specs.Conditions
pub use Rattle.history_keeper.specs.Histories
pub use Rattle.core_state.specs.Core
pub use Rattle.update_log.specs.Pasts
