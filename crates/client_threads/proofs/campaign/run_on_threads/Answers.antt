use Rattle.std.proofs.Common.{subst}
use Rattle.history_keeper.specs.Signs.{signs_of}
use Rattle.daemon_core.specs.Housed.{basis_in, past}
use Rattle.client_plays.specs.Has.{shelves_told}
use Rattle.client_plays.specs.Shelves.{means_for}
use Rattle.plugin_trait.specs.Steps.{steps_at}
use Rattle.client_threads.specs.Runs.{CampaignRan}
use Rattle.client_threads.proofs.LegalLaws.{legal-in}
use Rattle.client_threads.proofs.campaign.run_on_threads.Goals as goal

pub returns-clause-legal : goal.returns-clause-legal
returns-clause-legal g c =
    let house = c.run_boots-house.result.0 in
    legal-in (basis_in house.house_log) house.house_log.first c.args.plans.now (past house)
    c.run_boots-house.ensures.ran.ran.planned c.known.ensures.house_log.legal

pub returns-clause-ran : goal.returns-clause-ran
returns-clause-ran g c =
    subst
    (λ boxes. CampaignRan (signs_of g.K.Keeper.tells g.K.Keeper.doubt g.K.Keeper.faults) c.run_boots-house.result.1.ending c.run_boots-house.result.1.wanting
    (means_for (steps_at (λ b. (goal.Plugin-dyn g (b.vtable, b.value)).steps b.value) boxes) (shelves_told g.P.Shelf.files g.P.Shelf.faults c.args.shelves.items)) c.args.plans.now c.args.scripts.now c.args.house c.run_boots-house.result.0)
    c.deref.ensures.value c.run_boots-house.ensures.ran
