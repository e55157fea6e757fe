-- The run of an entry is its update.
use Rattle.std.proofs.Common.{◌≡◌, ℕ, List, [], ◌∷◌, ◌++◌, map, append_assoc, refl, ap, sym, ◌∙◌, subst}
use Rattle.std.specs.Prelude.{Option, Some, None}
use Rattle.block_pool.specs.Views.{SealedBytes}
use Rattle.fw_facts.specs.declared.seen.Seen.{Seen}
use Rattle.emulated_boards.specs.Boards.{BoardState}
use Rattle.emulated_boards.specs.Conditions.{view_of}
use Rattle.plugin_trait.specs.Steps.{PluginSteps}
use Rattle.history_keeper.specs.declared.row.RowState.{RowState}
use Rattle.update_log.specs.declared.event.Back.{Back}
use Rattle.update_log.specs.declared.event.Event.{Event}
use Rattle.update_log.specs.declared.event.Op.{Op}
use Rattle.update_log.specs.declared.event.Stored.{Stored}
use Rattle.daemon_core.specs.declared.claimed.Taken.{Taken}
use Rattle.daemon_core.specs.declared.finished.Finished.{Finished}
use Rattle.device_claims.specs.Claims.{StepGives}
use Rattle.device_claims.specs.declared.claim.Parts.{Parts}
use Rattle.install_engine.specs.Runs.{parts_taken}
use Rattle.client_plays.specs.declared.played.Played.{Played}
use Rattle.client_plays.specs.Moments.{Moment, at}
use Rattle.client_plays.specs.Plays.{GivesBack, IsOwnPlugin, StepsPlay, UpdatePlays}
use Rattle.client_plays.proofs.UpdateLaws.{runs-update}
use Rattle.claim_runs.specs.Made.{AreMade, IsBegun, StepMade, cut_events, start_events, step_events}
use Rattle.turn_lock.specs.Shown.{LockId, PassView}
use Rattle.shared_daemon.specs.declared.entry.Entry.{Entry}
use Rattle.shared_daemon.specs.Entries.{past_seen}
use Rattle.shared_daemon.specs.Names.{IsPass, Name}
use Rattle.claim_runs.specs.Known.{RunsSeen}
use Rattle.claim_runs.specs.Ran.{Finishes, GaveBack, back_event}
use Rattle.script_runs.specs.Passes.{Ended}
use Rattle.script_runs.proofs.EndedPlays.{ended-wider}
use Rattle.script_runs.proofs.OwnMoments.{OwnOf, own-back, own-finished, own-gained}

abbrev events_at : List Moment → List Event
events_at moments = map (λ (m : Moment). m.event) moments

-- Moments whose events come in two parts.
record Parted (moments : List Moment) (xs ys : List Event) : Type 0 where
  first : List Moment
  rest : List Moment
  are : moments ≡ first ++ rest
  first_are : events_at first ≡ xs
  rest_are : events_at rest ≡ ys

parted : (moments : List Moment) (xs ys : List Event) → events_at moments ≡ xs ++ ys → Parted moments xs ys
parted moments [] ys e = record { first = []; rest = moments; are = refl; first_are = refl; rest_are = e }
parted [] (x ∷ xs) ys e = cc
parted (m ∷ moments) (x ∷ xs) ys e =
    let head : m.event ≡ x = cc in
    let tail : events_at moments ≡ xs ++ ys = cc in
    let p : Parted moments xs ys = parted moments xs ys tail in
    record {
      first = m ∷ p.first;
      rest = p.rest;
      are = ap (λ (l : List Moment). m ∷ l) p.are;
      first_are = ap (λ (l : List Event). m.event ∷ l) p.first_are ∙ ap (λ (y : Event). y ∷ xs) head;
      rest_are = p.rest_are;
    }

module _ (by : PluginSteps) (client entry : ℕ) (payload : SealedBytes) where
  -- Steps that a plugin made, and the finish, are an update.
  update-plays : (was last : BoardState) (steps : List StepMade) (state : RowState) (stored : Stored) (moments : List Moment) → AreMade by entry payload was steps last
      → events_at moments ≡ step_events client entry steps ++ Event.Finish client entry state stored ∷ [] → StepsPlay by client entry payload was moments
  update-plays was last [] state stored [] a e = cc
  update-plays was last [] state stored (m ∷ []) a e = let is : m.event ≡ Event.Finish client entry state stored = cc in (state, stored, is)
  update-plays was last [] state stored (m ∷ n ∷ moments) a e = cc
  update-plays was last (s ∷ steps) state stored [] a e = cc
  update-plays was last (s ∷ steps) state stored (m ∷ []) a e = cc
  update-plays was last (s ∷ steps) state stored (m ∷ n ∷ moments) a e =
      let started : m.event ≡ Event.Start client entry s.op = cc in
      let ended : n.event ≡ Event.End client entry s.op s.outcome s.told s.seen = cc in
      let rest : events_at moments ≡ step_events client entry steps ++ Event.Finish client entry state stored ∷ [] = cc in (
        a.0,
        record { op = s.op; outcome = s.outcome; told = s.told; started_is = started; ended_is = ended ∙ ap (λ (v : Seen). Event.End client entry s.op s.outcome s.told v) a.2; made = a.1 },
        update-plays a.0 last steps state stored moments a.3 rest,
      )

  -- What an update would do yet: the step that was started is ended, and the entry finished.
  pub update_rest : (board : BoardState) (started : Option Op) → IsBegun by entry payload board started → List Moment
  update_rest board None b = at [] (Event.Finish client entry RowState.Failed Stored.Yes) ∷ []
  update_rest board (Some op) b =
      at [] (Event.End client entry op b.0 [] (view_of b.1.condition)) ∷ at [] (Event.Finish client entry RowState.Failed Stored.Yes) ∷ []

  -- Steps, and the start of one more perhaps, begin an update.
  update-begins : (was last : BoardState) (steps : List StepMade) (started : Option Op) (moments : List Moment) → AreMade by entry payload was steps last → (b : IsBegun by entry payload last started)
      → events_at moments ≡ step_events client entry steps ++ start_events client entry started → StepsPlay by client entry payload was (moments ++ update_rest last started b)
  unfolding update_rest
  update-begins was last [] None [] a b e = (RowState.Failed, Stored.Yes, refl)
  update-begins was last [] None (m ∷ moments) a b e = cc
  update-begins was last [] (Some op) [] a b e = cc
  update-begins was last [] (Some op) (m ∷ []) a b e =
      let is : m.event ≡ Event.Start client entry op = cc in (
        b.1,
        record { op = op; outcome = b.0; told = []; started_is = is; ended_is = refl; made = subst (λ (x : BoardState). StepGives by op entry payload x b.0 b.1) a b.2 },
        (RowState.Failed, Stored.Yes, refl),
      )
  update-begins was last [] (Some op) (m ∷ n ∷ moments) a b e = cc
  update-begins was last (s ∷ steps) started [] a b e = cc
  update-begins was last (s ∷ steps) started (m ∷ []) a b e = cc
  update-begins was last (s ∷ steps) started (m ∷ n ∷ moments) a b e =
      let first : m.event ≡ Event.Start client entry s.op = cc in
      let second : n.event ≡ Event.End client entry s.op s.outcome s.told s.seen = cc in
      let rest : events_at moments ≡ step_events client entry steps ++ start_events client entry started = cc in (
        a.0,
        record { op = s.op; outcome = s.outcome; told = s.told; started_is = first; ended_is = second ∙ ap (λ (v : Seen). Event.End client entry s.op s.outcome s.told v) a.2; made = a.1 },
        update-begins a.0 last steps started moments a.3 b rest,
      )

-- One event that gives the entry back.
gives-back : (client entry : ℕ) (moments : List Moment) → events_at moments ≡ back_event client entry ∷ [] → GivesBack client moments
gives-back client entry [] e = cc
gives-back client entry (m ∷ []) e = let is : m.event ≡ back_event client entry = cc in (Back.Entry entry, is)
gives-back client entry (m ∷ n ∷ moments) e = cc

module _ (name : Name) (lock : LockId) (by : PluginSteps) (entry : ℕ) (was : Parts) (old new : PassView Entry) (p : IsPass lock name old) (q : IsPass lock name new) where
  -- The run of an entry that was finished.
  pub finished-ended : (finished : Finished) → Finishes by entry was finished old new → Ended Played.Done (StepsPlay by old.number entry was.payload was.board) old new
  finished-ended finished f =
      let n : ℕ = old.number in
      let last : Event = Event.Finish n entry finished.state finished.stored in
      let more : List Event = step_events n entry f.steps ++ last ∷ [] in
      let k : OwnOf more old new = own-gained lock name old new more p q f.gained in
      record {
        moments = k.moments;
        did = record { same = f.gained.same; own_are = k.own_are; free = f.free_is };
        ends = update-plays by n entry was.payload was.board f.last f.steps finished.state finished.stored k.moments f.made (k.events_are ∙ own-finished n entry f.steps last refl);
      }

  -- Of one that was given back.
  pub back-ended : GaveBack by entry was old new → Ended Played.Off (StepsPlay by old.number entry was.payload was.board) old new
  back-ended b =
      let n : ℕ = old.number in
      let steps : List Event = step_events n entry b.steps in
      let start : List Event = start_events n entry b.started in
      let last : Event = back_event n entry in
      let more : List Event = steps ++ (start ++ (cut_events b.cut ++ last ∷ [])) in
      let k : OwnOf more old new = own-gained lock name old new more p q b.gained in
      let are : events_at k.moments ≡ (steps ++ start) ++ last ∷ [] = k.events_are ∙ own-back n entry b.steps b.started b.cut last refl ∙ sym (append_assoc steps start (last ∷ [])) in
      let parts : Parted k.moments (steps ++ start) (last ∷ []) = parted k.moments (steps ++ start) (last ∷ []) are in
      record {
        moments = k.moments;
        did = record { same = b.gained.same; own_are = k.own_are; free = b.over.free_is };
        ends = (
          record {
            front = parts.first;
            rest = update_rest by n entry was.payload b.last b.started b.begun;
            back = parts.rest;
            play = update-begins by n entry was.payload was.board b.last b.steps b.started parts.first b.made b.begun parts.first_are;
            gave = gives-back n entry parts.rest parts.rest_are;
            are = parts.are;
          },
          b.over.off_is,
        );
      }

-- The plugin of its board made the steps, so it is its update.
pub update-ended : (name : Name) (plugins : ℕ → PluginSteps) (taken : Taken) (played : Played) (old new : PassView Entry) → RunsSeen name old.number (parts_taken taken) None old.seen → IsOwnPlugin name.basis (past_seen old.seen) taken.entry taken.plugin
    → Ended played (StepsPlay (plugins taken.plugin) old.number taken.entry taken.payload taken.board) old new → Ended played (UpdatePlays name.basis plugins old.number taken.entry (past_seen old.seen)) old new
update-ended name plugins taken played old new r own e =
    ended-wider played (UpdatePlays name.basis plugins old.number taken.entry (past_seen old.seen)) (StepsPlay (plugins taken.plugin) old.number taken.entry taken.payload taken.board) old new
    (runs-update name.basis name.first (past_seen old.seen) plugins old.number taken.plugin (parts_taken taken) r.number r.l r.runs own) e
