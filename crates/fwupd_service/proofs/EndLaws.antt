-- What a status says of a campaign that was played, once its output was written.
use Rattle.std.proofs.Common.{◌≡◌, ℕ, ◌<◌, ◌≤◌, ◌||◌, Bool, false, List, [], length, Option, sym, subst, arith}
use Rattle.std.proofs.lemmas.List.{append-nil}
use Rattle.std.proofs.lemmas.Bool.{or_parts}
use Rattle.emulated_boards.specs.Boards.{BoardState}
use Rattle.history_keeper.specs.declared.row.Row.{Row}
use Rattle.history_keeper.specs.Signs.{KeeperSigns}
use Rattle.outer_traits.specs.Sinks.{Took, TookFront}
use Rattle.update_log.proofs.Lists.{by_test}
use Rattle.update_log.specs.declared.event.Event.{Event}
use Rattle.update_log.specs.Shows.{Campaign}
use Rattle.client_scripts.specs.declared.item.Item.{Item}
use Rattle.client_plays.specs.Tools.{Means}
use Rattle.client_threads.specs.declared.ending.Ending.{Ending}
use Rattle.client_threads.specs.declared.ending.Ran.{Ran}
use Rattle.client_threads.specs.Promises.{PlayedBoots}
use Rattle.run_status.specs.declared.status.Status.{Status}
use Rattle.fwupd_service.specs.declared.reporting.Written.{Written}
use Rattle.fwupd_service.specs.declared.reporting.Written.TheVariants as writes
use Rattle.fwupd_service.specs.Campaigns.{EndsAt, WasPlayed}
use Rattle.fwupd_service.specs.Ends.{CampaignEnds, IsReported, WasWritten, WentSome, WentWhole, ending_status, played_status, written_status}
use Rattle.fwupd_service.specs.Telling.{any_fault, any_want}

-- All of an output is a front of it.
whole_front : (text : List ℕ) (before after : Option (List ℕ)) → Took text before after → TookFront text before after
whole_front text before after took = record { front = text; rest = []; parts = sym (append-nil text); took = took }

ends-within : {K : Type 0} (told : K → List Row → Type 0) (ending : Ending) (c : Campaign) (log : List Event) (keeper : K) (count : ℕ) → EndsAt told ending c log keeper count → count ≤ length c.plans
ends-within told Ending.Whole c log keeper count e = omega arith
ends-within told (Ending.BadHistory entry) c log keeper count e = let l : count < length c.plans = e.0 in omega arith
ends-within told Ending.NoMemory c log keeper count e = let l : count < length c.plans = e in omega arith

module _ {K : Type 0} (signs : KeeperSigns K) (means : ℕ → Means) (c : Campaign) (scripts : List (List (List Item))) (log : List Event) (boards : List BoardState) (old new : K) (text : List ℕ) (before after : Option (List ℕ)) where
  abbrev Ends : Status → Type 0
  Ends status = CampaignEnds signs.tells means status c scripts log new text before after

  went-some : (ran : Ran) → WasPlayed signs means ran c scripts log boards old new → TookFront text before after → WentSome means c scripts log text before after
  went-some ran p took = record { wanting = ran.wanting; count = p.count; within = ends-within signs.tells ran.ending c log new p.count p.ends; played = p.played; took = took }

  -- nothing was left for want of memory
  all-played : (ending : Ending) (count : ℕ) → PlayedBoots false c means scripts count log → EndsAt signs.tells ending c log new count → any_want log ≡ false → Took text before after → Ends (ending_status ending (any_fault log))
  all-played Ending.Whole count played e w took =
      let P = λ (n : ℕ). PlayedBoots false c means scripts n log in
      let whole : WentWhole means c scripts log text before after = record { played = subst P e played; no_want = w; took = took } in
      by_test (any_fault log) (Ends (ending_status Ending.Whole (any_fault log)))
      (λ t. subst (λ (b : Bool). Ends (ending_status Ending.Whole b)) (sym t) (t, whole))
      (λ f. subst (λ (b : Bool). Ends (ending_status Ending.Whole b)) (sym f) (f, whole))
  all-played (Ending.BadHistory entry) count played e w took = record { count = count; fewer = e.0; played = played; no_want = w; bad = e.1; took = took }
  all-played Ending.NoMemory count played e w took =
      record { wanting = false; count = count; within = ends-within signs.tells Ending.NoMemory c log new count e; played = played; took = whole_front text before after took }

  -- the whole output was written
  written-whole : (ran : Ran) → WasPlayed signs means ran c scripts log boards old new → Took text before after → Ends (played_status ran.ending (ran.wanting || any_want log) (any_fault log))
  written-whole ran p took =
      let wanted = ran.wanting || any_want log in
      by_test wanted (Ends (played_status ran.ending wanted (any_fault log)))
      (λ t. subst (λ (b : Bool). Ends (played_status ran.ending b (any_fault log))) (sym t) (went-some ran p (whole_front text before after took)))
      (λ f.
      let parts = or_parts ran.wanting (any_want log) f in
      let played : PlayedBoots false c means scripts p.count log = subst (λ (b : Bool). PlayedBoots b c means scripts p.count log) parts.0 p.played in
      subst (λ (b : Bool). Ends (played_status ran.ending b (any_fault log))) (sym f) (all-played ran.ending p.count played p.ends parts.1 took))

  written-so : (written : Written) (ran : Ran) → WasPlayed signs means ran c scripts log boards old new → WasWritten written text before after
      → Ends (written_status written (played_status ran.ending (ran.wanting || any_want log) (any_fault log)))
  written-so writes.Whole ran p took = written-whole ran p took
  written-so writes.SinkFault ran p took = went-some ran p took
  written-so writes.NoMemory ran p took = went-some ran p took

  pub campaign-ends : (status : Status) (ran : Ran) → WasPlayed signs means ran c scripts log boards old new → IsReported status ran.ending ran.wanting log text before after
      → CampaignEnds signs.tells means status c scripts log new text before after
  campaign-ends status ran p r = subst Ends (sym r.status_is) (written-so r.written ran p r.took)
