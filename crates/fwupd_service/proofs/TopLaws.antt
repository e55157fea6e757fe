-- What a run comes to.
use Rattle.std.proofs.Common.{◌≡◌, ℕ, List, [], ◌∷◌, map, Option, Some, None, false, true, refl, subst, inr, arith}
use Rattle.std.specs.Prelude.{Result, Ok, Err, IfOk, IfErr, IsSome}
use Rattle.emulated_boards.specs.Boards.{BoardState}
use Rattle.history_keeper.specs.declared.row.Row.{Row}
use Rattle.history_keeper.specs.Signs.{KeeperSigns}
use Rattle.update_log.specs.declared.event.Event.{Event}
use Rattle.client_plays.specs.Shelves.{means_for}
use Rattle.plugin_trait.specs.Steps.{PluginSteps}
use Rattle.client_plays.specs.Tools.{ShelfTold, ShelvesStay}
use Rattle.client_threads.specs.declared.ending.Ran.{Ran}
use Rattle.site_types.specs.declared.campaign.Campaign.{Campaign}
use Rattle.command_words.specs.declared.command.Command.{Command}
use Rattle.command_words.specs.declared.command.Command.TheVariants as commands
use Rattle.command_words.specs.declared.command.WordsFault.{WordsFault}
use Rattle.command_words.specs.Commands.{Reads}
use Rattle.run_status.specs.declared.status.Status.{Status}
use Rattle.run_status.specs.declared.status.Status.TheVariants as statuses
use Rattle.report_queue.specs.Stops.{Told}
use Rattle.fwupd_service.specs.Campaigns.{ShelvesStand, WasPlayed, campaign_over}
use Rattle.fwupd_service.specs.Commands.{KeepsShelves, NothingDone, WordsEnd}
use Rattle.fwupd_service.specs.Plugged.{Plugins}
use Rattle.fwupd_service.specs.Ends.{IsReported}
use Rattle.fwupd_service.specs.Reported.{FaultTold, KeeperFaults, KeepsMarks, MarksTold}
use Rattle.fwupd_service.specs.Tops.{CampaignTold, Left}
use Rattle.fwupd_service.specs.Worlds.{Setting, World}
use Rattle.fwupd_service.proofs.EndLaws.{campaign-ends}

-- What holds of a result that is `Ok`, or `Err`.
pub if-ok : {A E : Type 0} (P : A → Type 0) (r : Result A E) (x : A) → IfOk r P → r ≡ Ok x → P x
if-ok {A = A} {E = E} P r x h e = subst (λ (r : Result A E). IfOk r P) e h

pub if-err : {A E : Type 0} (P : E → Type 0) (r : Result A E) (x : E) → IfErr r P → r ≡ Err x → P x
if-err {A = A} {E = E} P r x h e = subst (λ (r : Result A E). IfErr r P) e h

-- Shelves that came back are kept by any command.
pub keeps-same : {P : Type 0} (command : Option Command) (old new : List P) → new ≡ old → KeepsShelves command old new
keeps-same (Some commands.Run) old new e = tt
keeps-same (Some (commands.Update tag)) old new e = tt
keeps-same _ old new e = e

-- Marks that came back are kept by any command.
pub marks-same : {M : Type 0} (command : Option Command) (old new : M) → new ≡ old → KeepsMarks command old new
marks-same (Some (commands.Report max)) old new e = tt
marks-same _ old new e = e

-- Words that are no command say none.
pub says-none : (command : Option Command) (read : Result Command WordsFault) → Reads command read → read ≡ Err WordsFault.Usage → command ≡ None
says-none command read reads is = subst (Reads command) is reads

-- Where there was no memory for the words nothing was marked or written.
pub marks-untold : {K : Type 0} (told : K → List Row → Type 0) (command : Option Command) (status : Status) (keeper : K) (left : Left K) (before after : Told) → status ≡ statuses.NoMemory → after ≡ before → MarksTold told command status keeper left before after
marks-untold told (Some (commands.Report max)) status keeper left before after e same = inr (e, same)
marks-untold told _ status keeper left before after e same = tt

-- A status that tells no fault of a keeper tells none under `report`, where no count rose.
pub no-fault-told : (command : Option Command) (status : Status) (before after : KeeperFaults) → (status ≡ statuses.KeeperFault → ⊥) → after.history ≡ before.history → after.marks ≡ before.marks → FaultTold command status before after
no-fault-told (Some (commands.Report max)) status before after none same also = record { cause = λ e. absurd (none e); quiet = inr (same, also) }
no-fault-told _ status before after none same also = tt

-- Where there was no memory for the words of a command nothing was done.
pub words-wanted : {K Q : Type 0} (signs : KeeperSigns K) (plugins : Plugins Q) (command : Option Command) (read : Result Command WordsFault) (status : Status) (keeper : K) (left : Left K) (before after : World)
    → Reads command read → read ≡ Err WordsFault.NoMemory → status ≡ statuses.NoMemory → NothingDone keeper left before after → WordsEnd signs plugins command status keeper left before after
words-wanted signs plugins command read status keeper left before after reads wants e done = go command (subst (Reads command) wants reads)
  where
    go : (command : Option Command) → IsSome command → WordsEnd signs plugins command status keeper left before after
    go None some = let bad : false ≡ true = some in cc
    go (Some command) some = inr (e, done)

-- Shelves that nobody used stay.
pub stay-same : (shelves : List ShelfTold) → ShelvesStay shelves shelves
stay-same [] = tt
stay-same (shelf ∷ shelves) = (record { files = refl; counts = omega arith }, stay-same shelves)

module _ {K : Type 0} (signs : KeeperSigns K) (work : ℕ → PluginSteps) (ran : Ran) (campaign : Campaign) (opening : List Row) (log : List Event) (boards : List BoardState) (old new : K) (text : List ℕ) (before after : Setting) where
  pub campaign-told : (status : Status) → ShelvesStand log before.shelves after.shelves → map (λ (b : BoardState). b.plan) boards ≡ map (λ (b : BoardState). b.plan) campaign.boards.items → WasPlayed signs (means_for work before.shelves) ran (campaign_over campaign opening) campaign.scripts log boards old new
      → IsReported status ran.ending ran.wanting log text before.written after.written
      → CampaignTold signs work status campaign old (record { log = log; opening = opening; boards = Some boards; keeper = new }) text before after
  campaign-told status s plans p r = record {
    boards = boards;
    boards_are = refl;
    true_log = p.true_log;
    board_plans = plans;
    keeper_stands = p.keeper;
    shelves_stand = s;
    ends = campaign-ends signs (means_for work before.shelves) (campaign_over campaign opening) campaign.scripts log boards old new text before.written after.written status ran p r;
  }
