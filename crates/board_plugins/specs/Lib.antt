pub mod Sheets
pub use Rattle.fw_base.specs.Names
pub use Rattle.fw_facts.specs.Flags
pub use Rattle.emulated_boards.specs.Boards
pub use Rattle.emulated_boards.specs.Images
pub use Rattle.plugin_trait.specs.Steps
