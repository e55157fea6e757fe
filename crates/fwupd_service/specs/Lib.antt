pub mod Telling
pub mod Worlds
pub mod Begins
pub mod Campaigns
pub mod Ends
pub mod Plugged
pub mod Tops
pub mod Makes
pub mod Loads
pub mod Updates
pub mod Commands
pub mod Complete
pub mod Keepers
pub mod Reported
pub use Rattle.outer_traits.specs.Faults as OuterTraitsFaults
pub use Rattle.outer_traits.specs.Plans
pub use Rattle.outer_traits.specs.Sinks
pub use Rattle.plugin_order.specs.Arranged
pub use Rattle.emulated_boards.specs.Boards as EmulatedBoardsBoards
pub use Rattle.history_keeper.specs.Changes
pub use Rattle.history_keeper.specs.Histories
pub use Rattle.history_keeper.specs.Signs
pub use Rattle.update_log.specs.Known
pub use Rattle.update_log.specs.Legal
pub use Rattle.update_log.specs.Once
pub use Rattle.update_log.specs.Pasts
pub use Rattle.update_log.specs.Shows
pub use Rattle.report_text.specs.Report
pub use Rattle.report_queue.specs.Marking as ReportQueueMarking
pub use Rattle.report_queue.specs.Reports
pub use Rattle.report_queue.specs.Stops as ReportQueueStops
pub use Rattle.site_making.specs.Made
pub use Rattle.site_making.specs.Settled as SiteMakingSettled
pub use Rattle.command_words.specs.Commands as CommandWordsCommands
pub use Rattle.command_outputs.specs.Printed
pub use Rattle.command_outputs.specs.Summed
pub use Rattle.campaign_inputs.specs.Inputs
pub use Rattle.campaign_inputs.specs.Opened
pub use Rattle.campaign_inputs.specs.Settled as CampaignInputsSettled
pub use Rattle.document_commands.specs.Ends as DocumentCommandsEnds
pub use Rattle.document_commands.specs.Explains
pub use Rattle.update_plans.specs.Plans as UpdatePlansPlans
pub use Rattle.update_plans.specs.Tags
pub use Rattle.campaign_plans.specs.FirstPlans
pub use Rattle.campaign_plans.specs.Printed as CampaignPlansPrinted
pub use Rattle.campaign_plans.specs.Updating
pub use Rattle.daemon_core.specs.Boards as DaemonCoreBoards
pub use Rattle.daemon_core.specs.Boots
pub use Rattle.daemon_core.specs.House
pub use Rattle.daemon_core.specs.Housed
pub use Rattle.daemon_core.specs.Keeping
pub use Rattle.daemon_core.specs.Planned as DaemonCorePlanned
pub use Rattle.daemon_core.specs.Reading
pub use Rattle.client_plays.specs.Endings
pub use Rattle.client_plays.specs.Faults as ClientPlaysFaults
pub use Rattle.client_plays.specs.Has
pub use Rattle.client_plays.specs.Shelves
pub use Rattle.client_plays.specs.Tools
pub use Rattle.client_threads.specs.Planned as ClientThreadsPlanned
pub use Rattle.client_threads.specs.Promises
