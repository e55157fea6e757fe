pub mod Components
pub mod Faults
pub mod Kinds
pub mod Lookup
pub mod Places
pub mod Reading
pub mod Requirements
pub mod Words
pub use Rattle.json_values.specs.Trees
pub use Rattle.fw_base.specs.Digests
pub use Rattle.fw_base.specs.Lines
pub use Rattle.fw_base.specs.Names
pub use Rattle.guid_ids.specs.Identifiers
pub use Rattle.version_formats.specs.VersionOrder
pub use Rattle.version_formats.specs.Versions
pub use Rattle.fw_patterns.specs.Reading as FwPatternsReading
