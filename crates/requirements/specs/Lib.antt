pub mod Requirements
pub use Rattle.version_formats.specs.VersionOrder
pub use Rattle.fw_patterns.specs.Deciding
pub use Rattle.fw_facts.specs.Views
