pub mod Answers
pub mod Findings
pub mod Runs
pub use Rattle.outer_traits.specs.Faults
pub use Rattle.outer_traits.specs.Shelves
pub use Rattle.block_pool.specs.Views
pub use Rattle.emulated_boards.specs.Boards as EmulatedBoardsBoards
pub use Rattle.emulated_boards.specs.Conditions
pub use Rattle.plugin_trait.specs.Steps as PluginTraitSteps
pub use Rattle.update_log.specs.Holding
pub use Rattle.update_log.specs.Known
pub use Rattle.update_log.specs.Legal
pub use Rattle.update_log.specs.Once
pub use Rattle.update_log.specs.Pasts
pub use Rattle.update_log.specs.Shows
pub use Rattle.update_log.specs.Steps as UpdateLogSteps
pub use Rattle.daemon_core.specs.Boards as DaemonCoreBoards
pub use Rattle.daemon_core.specs.Fetches
pub use Rattle.daemon_core.specs.Housed
pub use Rattle.daemon_core.specs.Returns
