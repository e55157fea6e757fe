pub mod Texts
pub mod Parts
pub mod Commands
pub use Rattle.fw_base.specs.Decimals
pub use Rattle.fw_base.specs.Names
pub use Rattle.fw_base.specs.Padded
pub use Rattle.version_formats.specs.Versions
