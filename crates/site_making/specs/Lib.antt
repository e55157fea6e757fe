pub mod Priorities
pub mod Settled
pub mod Made
pub use Rattle.fw_base.specs.Names
pub use Rattle.guid_ids.specs.Identifiers
pub use Rattle.version_formats.specs.Versions
pub use Rattle.fw_facts.specs.Flags
pub use Rattle.quirk_files.specs.Sheets as QuirkFilesSheets
pub use Rattle.plugin_order.specs.Arranged
pub use Rattle.plugin_order.specs.Sheets as PluginOrderSheets
pub use Rattle.emulated_boards.specs.Boards
pub use Rattle.emulated_boards.specs.Conditions
pub use Rattle.emulated_boards.specs.Images
pub use Rattle.emulated_boards.specs.Plans
pub use Rattle.site_types.specs.Limits
