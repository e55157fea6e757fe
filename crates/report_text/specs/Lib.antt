pub mod Words
pub mod Refusals
pub mod Lines
pub mod Report
pub use Rattle.outer_traits.specs.Faults
pub use Rattle.outer_traits.specs.Sinks
pub use Rattle.history_keeper.specs.Histories
pub use Rattle.core_state.specs.Core
pub use Rattle.update_log.specs.Known
pub use Rattle.update_log.specs.Legal
pub use Rattle.update_log.specs.Pasts
pub use Rattle.update_log.specs.Shows
pub use Rattle.client_scripts.specs.Parts
pub use Rattle.client_scripts.specs.Replies
pub use Rattle.client_scripts.specs.Words as ClientScriptsWords
