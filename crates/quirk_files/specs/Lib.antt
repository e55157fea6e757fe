pub mod Texts
pub mod Keys
pub mod Values
pub mod Flags
pub mod Files
pub mod Sheets
pub mod Places
pub use Rattle.fw_base.specs.Decimals
pub use Rattle.fw_base.specs.Lines
pub use Rattle.fw_base.specs.Names
pub use Rattle.guid_ids.specs.Identifiers
pub use Rattle.version_formats.specs.Formats
pub use Rattle.fw_facts.specs.Flags as FwFactsFlags
