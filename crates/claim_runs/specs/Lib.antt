pub mod Known
pub mod Made
pub mod Ran
pub use Rattle.turn_lock.specs.Lists
pub use Rattle.turn_lock.specs.Shown
pub use Rattle.emulated_boards.specs.Boards
pub use Rattle.emulated_boards.specs.Conditions
pub use Rattle.emulated_boards.specs.Images
pub use Rattle.update_log.specs.Legal
pub use Rattle.update_log.specs.Pasts
pub use Rattle.update_log.specs.Steps as UpdateLogSteps
pub use Rattle.daemon_core.specs.Planned
pub use Rattle.daemon_core.specs.Returns
pub use Rattle.shared_daemon.specs.Entries
pub use Rattle.shared_daemon.specs.Names
pub use Rattle.shared_daemon.specs.Steps as SharedDaemonSteps
pub use Rattle.device_claims.specs.Claims
pub use Rattle.device_claims.specs.States
pub use Rattle.install_engine.specs.Runs
