pub mod Ends
pub mod Explains
pub mod Stops
pub use Rattle.outer_traits.specs.Faults
pub use Rattle.outer_traits.specs.Sinks
pub use Rattle.outer_traits.specs.Sources
pub use Rattle.emulated_boards.specs.Conditions
pub use Rattle.emulated_boards.specs.Images
pub use Rattle.site_making.specs.Settled as SiteMakingSettled
pub use Rattle.command_outputs.specs.Printed
pub use Rattle.campaign_inputs.specs.Begin
pub use Rattle.campaign_inputs.specs.Inputs
pub use Rattle.campaign_inputs.specs.Opened
pub use Rattle.campaign_inputs.specs.Settled as CampaignInputsSettled
pub use Rattle.command_outputs.specs.Explained
pub use Rattle.first_boots.specs.FirstBoot
