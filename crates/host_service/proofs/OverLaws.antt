-- What a run makes of the rows that its keeper told as it came, where it told no others.
use Rattle.std.proofs.Common.{◌≡◌, ◌⊎◌, ℕ, List, [], Option, Some, None, refl, inl, inr, ◌∙◌, subst}
use Rattle.emulated_boards.specs.Boards.{BoardState}
use Rattle.fw_facts.specs.declared.machine.MachineFacts.{MachineFacts}
use Rattle.history_keeper.specs.declared.row.Row.{Row}
use Rattle.history_keeper.specs.Keepers.{StillTold}
use Rattle.history_keeper.specs.Signs.{KeeperSigns}
use Rattle.plugin_order.specs.declared.sheet.PluginSheet.{PluginSheet}
use Rattle.plugin_trait.specs.Steps.{PluginSteps}
use Rattle.update_log.specs.declared.facts.PluginVetoes.{PluginVetoes}
use Rattle.update_log.specs.Known.{doubt, rows}
use Rattle.update_log.specs.Pasts.{past_of}
use Rattle.update_log.specs.Shows.{Campaign as Played}
use Rattle.command_words.specs.declared.command.Command.{Command}
use Rattle.command_words.specs.declared.command.Command.TheVariants as commands
use Rattle.daemon_core.specs.Keeping.{HasRows, WasReopened}
use Rattle.run_status.specs.declared.status.Status.{Status}
use Rattle.site_types.specs.declared.campaign.Campaign.{Campaign}
use Rattle.fwupd_service.specs.declared.loading.LoadStop.{LoadStop}
use Rattle.fwupd_service.specs.Campaigns.{IsOpening, IsTrueLog, IsUnread, IsUntouched, KeeperStands, campaign_over}
use Rattle.fwupd_service.specs.Commands.{CommandEnds, NothingHappened, WordsEnd}
use Rattle.fwupd_service.specs.Makes.{MadeOrNothing, MakeEnds}
use Rattle.fwupd_service.specs.Plugged.{Plugins}
use Rattle.fwupd_service.specs.Tops.{CampaignWent, Left, NothingBegan, RunEnds}
use Rattle.fwupd_service.specs.Updates.{OnlyLoaded, PlanEnds, PlanGoes, PlanPlayed, UpdateEnds, UpdateGoes}
use Rattle.fwupd_service.specs.Worlds.{Setting, World}
use Rattle.host_service.specs.Over.{AreLeft, ArePlayed, NoneTaken, RanOver, WereTaken}

-- ---- a campaign over a keeper

module _ {K : Type 0} (signs : KeeperSigns K) (keeper : K) (left : Left K) (held last : List Row) (only : (all : List Row) → signs.tells keeper all → all ≡ held) (tells : signs.tells left.keeper last) where
  Taken : Played → Type 0
  Taken c = NoneTaken held last left.opening left.log ⊎ WereTaken c held last left.log

  opened-so : IsOpening (signs.tells keeper) (signs.tells left.keeper) left.opening left.log → (left.opening ≡ []) ⊎ (left.opening ≡ held)
  opened-so (inl a) = inr (only left.opening (a last tells))
  opened-so (inr (e, still, none)) = inl e

  untouched-so : IsOpening (signs.tells keeper) (signs.tells left.keeper) left.opening left.log → IsUntouched signs left.log keeper left.keeper → NoneTaken held last left.opening left.log
  untouched-so o u = record { none = u.none; same = only last (u.told_are last tells); before = opened-so o }

  taken-so : (c : Played) → c.basis.opening ≡ held
      → HasRows signs left.keeper (rows c.basis (past_of left.log)) (doubt c.basis (past_of left.log))
      ⊎ (IsUnread c left.log × WasReopened signs left.keeper (rows c.basis (past_of left.log)) (doubt c.basis (past_of left.log))) → WereTaken c held last left.log
  taken-so c e (inl h) = record { before = e; behind = inl (h.rows_are last tells) }
  taken-so c e (inr (u, w)) = record {
    before = e;
    behind = elim (w.rows_are last tells) [
      | inl same ↦ inl same
      | inr made ↦ inr (u, made)
    ];
  }

  kept-so : (c : Played) → c.basis.opening ≡ left.opening → IsOpening (signs.tells keeper) (signs.tells left.keeper) left.opening left.log
      → IsUntouched signs left.log keeper left.keeper
      ⊎ (HasRows signs left.keeper (rows c.basis (past_of left.log)) (doubt c.basis (past_of left.log))
      ⊎ (IsUnread c left.log × WasReopened signs left.keeper (rows c.basis (past_of left.log)) (doubt c.basis (past_of left.log)))) → Taken c
  unfolding Taken
  kept-so c e o (inl u) = inl (untouched-so o u)
  kept-so c e (inl a) (inr h) = inr (taken-so c (e ∙ only left.opening (a last tells)) h)
  kept-so c e (inr (no_rows, still, none)) (inr h) = inl (record { none = none; same = only last (still last tells); before = inl no_rows })

  stands-so : (c : Played) (boards : List BoardState) → c.basis.opening ≡ left.opening → IsTrueLog c left.log boards → KeeperStands signs c left.log keeper left.keeper → ArePlayed held last left.opening left.log
  unfolding Taken
  stands-so c boards e t k =
      let opened = subst (λ (rows : List Row). IsOpening (signs.tells keeper) (signs.tells left.keeper) rows left.log) e k.opening_is in
      record { campaign = c; opening_is = e; boards = boards; true_log = t; taken = kept-so c e opened k.keeps }

  same-so : left.log ≡ [] → StillTold (signs.tells keeper) (signs.tells left.keeper) → AreLeft held last left.log
  same-so e still = record { nothing = e; same = only last (still last tells) }

  stays-so : left.keeper ≡ keeper → last ≡ held
  stays-so e = only last (subst (λ (k : K). signs.tells k last) e tells)

  began-so : {before after : Option (List ℕ)} → NothingBegan keeper left before after → AreLeft held last left.log
  began-so n = record { nothing = n.log; same = stays-so n.keeper_is }

  happened-so : NothingHappened keeper left → AreLeft held last left.log
  happened-so n = record { nothing = n.log; same = stays-so n.keeper_is }

  loaded-so : (stop : Option LoadStop) → OnlyLoaded signs stop keeper left → AreLeft held last left.log
  loaded-so stop o = same-so o.log o.loaded.told_stay

  went-so : (work : ℕ → PluginSteps) (status : Status) (campaign : Campaign) (text : List ℕ) (before after : Setting)
      → CampaignWent signs work status campaign keeper left text before after → AreLeft held last left.log ⊎ ArePlayed held last left.opening left.log
  went-so work status campaign text before after (inl t) =
      inr (stands-so (campaign_over campaign left.opening) t.boards refl t.true_log t.keeper_stands)
  went-so work status campaign text before after (inr n) = inl (began-so n.1)

-- ---- the commands

module _ {K : Type 0} (signs : KeeperSigns K) (keeper : K) (left : Left K) (held last : List Row) (only : (all : List Row) → signs.tells keeper all → all ≡ held) (tells : signs.tells left.keeper last) where
  Ran : Type 0
  Ran = AreLeft held last left.log ⊎ ArePlayed held last left.opening left.log

  run-so : {Q : Type 0} (plugins : Plugins Q) (status : Status) (before after : World) → RunEnds signs plugins status keeper left before after → Ran
  unfolding Ran
  run-so plugins status before after (inl s) = inl (began-so signs keeper left held last only tells s.nothing)
  run-so plugins status before after (inr w) = went-so signs keeper left held last only tells _ status w.campaign _ _ _ w.went

  played-so : (work : ℕ → PluginSteps) (tag : List ℕ) (campaign : Campaign) (status : Status) (before after : Setting) → PlanPlayed signs work tag campaign status keeper left before after → Ran
  unfolding Ran
  played-so work tag campaign status before after p =
      went-so signs p.middle left held last (λ all t. only all (p.loaded.told_stay all t)) tells work status p.made _ before after p.went

  goes-so : (work : ℕ → PluginSteps) (tag : List ℕ) (campaign : Campaign) (status : Status) (before after : Setting) → UpdateGoes signs work tag campaign status keeper left before after → Ran
  unfolding Ran
  goes-so work tag campaign status before after (inl n) = inl (loaded-so signs keeper left held last only tells (Some n.stop) n.only)
  goes-so work tag campaign status before after (inr (inl w)) = inl (loaded-so signs keeper left held last only tells None w.only)
  goes-so work tag campaign status before after (inr (inr p)) = played-so work tag campaign status before after p

  update-so : {Q : Type 0} (plugins : Plugins Q) (tag : List ℕ) (status : Status) (before after : World) → UpdateEnds signs plugins tag status keeper left before after → Ran
  unfolding Ran
  update-so plugins tag status before after (inl s) = inl (began-so signs keeper left held last only tells s.nothing)
  update-so plugins tag status before after (inr w) = goes-so _ tag w.campaign status _ _ w.goes

  planned-so : (tag : List ℕ) (campaign : Campaign) (status : Status) (before after : Option (List ℕ)) → PlanGoes signs tag campaign status keeper left before after → AreLeft held last left.log
  planned-so tag campaign status before after (inl n) = loaded-so signs keeper left held last only tells (Some n.stop) n.only
  planned-so tag campaign status before after (inr p) = loaded-so signs keeper left held last only tells None p.only

  plan-so : (sheets : List PluginSheet) (vetoes : MachineFacts → List PluginVetoes) (tag : List ℕ) (status : Status) (before after : World) → PlanEnds signs sheets vetoes tag status keeper left before after → AreLeft held last left.log
  plan-so sheets vetoes tag status before after (inl s) = began-so signs keeper left held last only tells s.nothing
  plan-so sheets vetoes tag status before after (inr w) = planned-so tag w.campaign status _ _ w.goes

  made-so : (boards clients : ℕ) (work : ℕ → PluginSteps) (status : Status) (campaign : Campaign) (before after : Option (List ℕ)) → MadeOrNothing boards clients work status campaign keeper left before after → last ≡ held
  made-so boards clients work status campaign before after (inl m) = stays-so signs keeper left held last only tells m.keeper_is
  made-so boards clients work status campaign before after (inr n) = stays-so signs keeper left held last only tells n.1.keeper_is

  make-so : {Q : Type 0} (boards clients : ℕ) (plugins : Plugins Q) (status : Status) (before after : Option (List ℕ)) → MakeEnds boards clients plugins status keeper left before after → last ≡ held
  make-so boards clients plugins status before after (inl s) = stays-so signs keeper left held last only tells s.nothing.keeper_is
  make-so boards clients plugins status before after (inr b) = made-so boards clients _ status b.campaign before after b.went

  command-so : {Q : Type 0} (plugins : Plugins Q) (command : Command) (status : Status) (before after : World) → CommandEnds signs plugins command status keeper left before after → RanOver (Some command) held last left.opening left.log
  unfolding Ran
  command-so plugins commands.Run status before after e = run-so plugins status before after e
  command-so plugins (commands.Update tag) status before after e = update-so plugins tag status before after e
  command-so plugins (commands.Plan tag) status before after e = plan-so plugins.sheets plugins.vetoes tag status before after e
  command-so plugins (commands.Make boards clients) status before after e = make-so boards clients plugins status before.written after.written e.1
  command-so plugins (commands.Report max) status before after e = same-so signs keeper left held last only tells e.log e.rows_stay
  command-so plugins _ status before after e = happened-so signs keeper left held last only tells e.nothing

  alone-so : (command : Command) → AreLeft held last left.log → RanOver (Some command) held last left.opening left.log
  alone-so commands.Run a = inl a
  alone-so (commands.Update tag) a = inl a
  alone-so (commands.Make boards clients) a = a.same
  alone-so _ a = a

  pub words-so : {Q : Type 0} (plugins : Plugins Q) (command : Option Command) (status : Status) (before after : World) → WordsEnd signs plugins command status keeper left before after → RanOver command held last left.opening left.log
  words-so plugins None status before after e = began-so signs keeper left held last only tells e.1.nothing
  words-so plugins (Some command) status before after (inl e) = command-so plugins command status before after e
  words-so plugins (Some command) status before after (inr n) = alone-so command (began-so signs keeper left held last only tells n.1.nothing)
