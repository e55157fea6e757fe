pub mod Chosen
pub mod Inputs
pub mod Limits
pub mod Settled
pub mod Begin
pub mod Opened
pub use Rattle.outer_traits.specs.Faults
pub use Rattle.outer_traits.specs.Sources
pub use Rattle.plugin_order.specs.Arranged
pub use Rattle.plugin_order.specs.Sheets
pub use Rattle.emulated_boards.specs.Boards
pub use Rattle.emulated_boards.specs.Conditions
pub use Rattle.site_types.specs.Limits as SiteTypesLimits
pub use Rattle.site_files.specs.Sites
pub use Rattle.site_files.specs.Told
pub use Rattle.site_making.specs.Made
pub use Rattle.site_making.specs.Priorities
pub use Rattle.site_making.specs.Settled as SiteMakingSettled
