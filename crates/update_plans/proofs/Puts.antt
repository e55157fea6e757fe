-- What the calls find and leave that put an install behind a log.
use Rattle.std.proofs.Common.{◌≡◌, ℕ, ◌+◌, ◌<◌, ◌≤◌, true, false, List, [], ◌∷◌, ◌++◌, length, refl, sym, ap, ◌∙◌, subst, arith, length-append}
use Rattle.std.specs.Prelude.{Ok, Option, Some, None, IsSome, option_map, option_and_then}
use Rattle.std.specs.Option.{option_map_or}
use Rattle.std.proofs.lemmas.Bool.{ltb-true}
use Rattle.std.proofs.lemmas.Option.{same_Some}
use Rattle.std.proofs.lemmas.List.{length-map}
use Rattle.emulated_boards.specs.declared.mark.Mark.{Mark}
use Rattle.fw_facts.specs.declared.flags.DeviceFlag.{DeviceFlag}
use Rattle.fw_facts.specs.declared.release.Release.{Release}
use Rattle.fw_facts.specs.declared.seen.Seen.{Seen}
use Rattle.fw_facts.specs.declared.view.DeviceView.{DeviceView}
use Rattle.fw_facts.specs.Flags.{has_flag}
use Rattle.history_keeper.specs.declared.row.Row.{Row}
use Rattle.history_keeper.specs.declared.row.RowState.{RowState}
use Rattle.release_catalogue.specs.Lookup.{Chosen}
use Rattle.update_log.specs.declared.answer.AskAnswer.{AskAnswer}
use Rattle.update_log.specs.declared.answer.ClaimAnswer.{ClaimAnswer}
use Rattle.update_log.specs.declared.event.Event.{Event}
use Rattle.update_log.specs.declared.event.Op.{Op}
use Rattle.update_log.specs.declared.event.Stored.{Stored}
use Rattle.update_log.specs.declared.refusal.FetchNote.{FetchNote}
use Rattle.update_log.specs.declared.request.Request.{Request}
use Rattle.update_log.specs.declared.trace.Trace.{Trace}
use Rattle.core_state.specs.Core.{Core, Stands}
use Rattle.update_log.specs.Legal.{IsNext}
use Rattle.update_log.specs.Holding.{blocks_of, live_entry}
use Rattle.update_log.specs.Known.{Basis, reason_of, rows, views}
use Rattle.update_log.specs.Legal.{next_entry}
use Rattle.update_log.specs.Pasts.{past_of, time_of}
use Rattle.update_log.specs.Shows.{marks}
use Rattle.update_log.specs.Steps.{all_ops, next_op, next_step, trace}
use Rattle.history_keeper.specs.Changes.{with_state}
use Rattle.update_log.proofs.Pasts.{past-push}
use Rattle.update_plans.specs.Following.{IsQuiet}
use Rattle.update_plans.specs.Plans.{Scene, asked, done, end_of, installed, installed_with, is_good, is_good_with, is_next, release_at, request_of, seen_of, shown_after, taken, view_of, waits_for_boot, with_some}
use Rattle.update_plans.specs.Putting.{Begins, IsPutting, Making, end_on, ops_before, shown_on}
use Rattle.update_plans.specs.declared.plan.PlanStep.{PlanStep}
use Rattle.update_plans.proofs.Chained.{Good, good-step}
use Rattle.update_plans.proofs.Claims.{accepted_twice}
use Rattle.update_plans.proofs.Installed.{cleaned, goes-whole, row, rows-begun}
use Rattle.update_plans.proofs.Put.{MayBe, before-event, end-said, end_of_step, next-of, some, some-live, step-left, step-taken, step-with, whole}
use Rattle.update_plans.proofs.Targets.{Found, found, tests}

-- ---- the release

-- the release that was found is the chosen one's
pub release-of : (o : Option Chosen) (chosen : Chosen) (release : Release) → o ≡ Some chosen → option_map (λ (c : Chosen). c.release) o ≡ Some release → chosen.release ≡ release
release-of o chosen release there e = same_Some _ _ (sym (ap (option_map (λ (c : Chosen). c.release)) there) ∙ e)

pub digest-of : (o : Option Chosen) (release : Release) → option_map (λ (c : Chosen). c.release) o ≡ Some release → option_map (λ (c : Chosen). c.release.digest) o ≡ Some release.digest
digest-of None release e = cc
digest-of (Some chosen) release e = ap (λ (r : Release). Some r.digest) (same_Some _ _ e)

-- ---- the state

-- rows that an event leaves have room
pub rows-fit : (basis : Basis) (core : Core) → Stands basis core → length (rows basis (past_of core.log)) ≤ length core.rows + core.row_room
rows-fit basis core s = let e = ap (λ (rs : List Row). length rs) s.rows in omega (arith, e)

-- where a step is good there is place for a row
pub few-rows : (s : Scene) (number : ℕ) (step : PlanStep) (chosen : Chosen) (past : List Event) → is_good_with s number step past chosen ≡ true → length (rows s.basis past) < 65536
few-rows s number step chosen past good =
    let all = tests s number step chosen past good in
    ltb-true (length (rows s.basis past)) 65536 (sym (accepted_twice s number step chosen past all.asked_so) ∙ all.claimed_so)

pub few-good : (s : Scene) (number : ℕ) (step : PlanStep) (past : List Event) → is_good s number step past ≡ true → length (rows s.basis past) < 65536
few-good s number step past h = let g = good-step s number step past h in few-rows s number step g.chosen past g.good

-- and its release is there
pub good-there : (s : Scene) (number : ℕ) (step : PlanStep) (past : List Event) → is_good s number step past ≡ true → option_map (λ (c : Chosen). c.release) (release_at s step.release) ≡ None → ⊥
good-there s number step past h none =
    let g = good-step s number step past h in
    let bad : Some g.chosen.release ≡ None = sym (ap (option_map (λ (c : Chosen). c.release)) g.there) ∙ none in
    cc

-- ---- the ask and the claim

abbrev pub ask_made : Scene → PlanStep → Request → ℕ → Event
ask_made s step request blocks = Event.Ask s.client request None (AskAnswer.Hold blocks step.release)

abbrev pub claim_made : Scene → PlanStep → Request → Release → ℕ → Event
claim_made s step request release entry = Event.Claim s.client request (FetchNote.Whole release.digest release.size step.raw) (ClaimAnswer.Entry entry)

-- of what they are made
pub record Means (s : Scene) (number : ℕ) (step : PlanStep) (chosen : Chosen) (past : List Event) (request : Request) (release : Release) (blocks entry : ℕ) : Type 0 where
  pub request_is : request ≡ request_of s number step chosen
  pub release_is : release ≡ chosen.release
  pub blocks_are : blocks ≡ blocks_of release.size
  pub entry_is : entry ≡ next_entry s.basis past

module _ (s : Scene) (number : ℕ) (step : PlanStep) (chosen : Chosen) (past : List Event) (q : IsQuiet s past) (there : release_at s step.release ≡ Some chosen) (good : is_good_with s number step past chosen ≡ true)
    (request : Request) (release : Release) (blocks entry : ℕ) (m : Means s number step chosen past request release blocks entry) where
  abbrev asks : Request
  asks = request_of s number step chosen

  asked-is : ask_made s step request blocks ∷ past ≡ asked s number step chosen past
  asked-is =
      ap (λ (r : Request). ask_made s step r blocks ∷ past) m.request_is
      ∙ ap (λ (n : ℕ). ask_made s step asks n ∷ past) (m.blocks_are ∙ ap (λ (r : Release). blocks_of r.size) m.release_is)

  taken-is : claim_made s step request release entry ∷ asked s number step chosen past ≡ taken s number step chosen (asked s number step chosen past)
  taken-is =
      ap (λ (r : Request). claim_made s step r release entry ∷ asked s number step chosen past) m.request_is
      ∙ ap (λ (x : Release). claim_made s step asks x entry ∷ asked s number step chosen past) m.release_is
      ∙ ap (λ (n : ℕ). claim_made s step asks chosen.release n ∷ asked s number step chosen past) m.entry_is

  claimed : MayBe s (taken s number step chosen (asked s number step chosen past))
  claimed = some s number step chosen past q there good [] all_ops refl

  pub ask-next : IsNext s.basis past (ask_made s step request blocks)
  ask-next =
      next-of s past (ask_made s step request blocks)
      (subst (MayBe s) (sym asked-is) (before-event s (asked s number step chosen past) (claim_made s step asks chosen.release (next_entry s.basis past)) claimed))

  pub claim-next : (before : List Event) → before ≡ ask_made s step request blocks ∷ past → IsNext s.basis before (claim_made s step request release entry)
  claim-next before e =
      subst (λ (p : List Event). IsNext s.basis p (claim_made s step request release entry)) (sym (e ∙ asked-is))
      (next-of s (asked s number step chosen past) (claim_made s step request release entry) (subst (MayBe s) (sym taken-is) claimed))

  f : Found s number step chosen past
  f = let all = tests s number step chosen past good in found s number step chosen past there all.asked_so

  pub rows-claimed : (before : List Event) → before ≡ ask_made s step request blocks ∷ past
      → length (rows s.basis (claim_made s step request release entry ∷ before)) ≡ length (rows s.basis past) + 1
  rows-claimed before e =
      ap (λ (p : List Event). length (rows s.basis (claim_made s step request release entry ∷ p))) (e ∙ asked-is)
      ∙ ap (λ (p : List Event). length (rows s.basis p)) taken-is
      ∙ ap (λ (rs : List Row). length rs) (rows-begun s number step chosen past q f)
      ∙ length-append (rows s.basis past) (row s number step chosen past q f ∷ [])

  pub put-taken : (log now next : List Event) → past_of log ≡ past → now ≡ log ++ ask_made s step request blocks ∷ [] → next ≡ now ++ claim_made s step request release entry ∷ []
      → past_of next ≡ with_some s number step chosen [] past
  put-taken log now next p e g =
      ap past_of g ∙ past-push now (claim_made s step request release entry)
      ∙ ap (λ (ps : List Event). claim_made s step request release entry ∷ ps)
      (ap past_of e ∙ past-push log (ask_made s step request blocks) ∙ ap (λ (ps : List Event). ask_made s step request blocks ∷ ps) p ∙ asked-is)
      ∙ taken-is

-- the same, told of the state
module _ (s : Scene) (step : PlanStep) (at : Making) (release : Release) (entry : ℕ) (core : Core) (b : Begins s step at release entry core) (request : Request) (blocks : ℕ)
    (request_is : (chosen : Chosen) → chosen.release ≡ release → request ≡ request_of s at.number step chosen) (blocks_are : blocks ≡ blocks_of release.size) where
  good-one : Good s at.number step at.before
  good-one = good-step s at.number step at.before b.good

  released : good-one.chosen.release ≡ release
  released = release-of (release_at s step.release) good-one.chosen release good-one.there b.release_is

  made_of : Means s at.number step good-one.chosen at.before request release blocks entry
  made_of = record { request_is = request_is good-one.chosen released; release_is = sym released; blocks_are = blocks_are; entry_is = b.entry_is }

  pub begins-ask : IsNext s.basis (past_of core.log) (ask_made s step request blocks)
  begins-ask =
      subst (λ (past : List Event). IsNext s.basis past (ask_made s step request blocks)) (sym b.before_is)
      (ask-next s at.number step good-one.chosen at.before b.quiet good-one.there good-one.good request release blocks entry made_of)

  pub begins-ask-rows : length (rows s.basis (ask_made s step request blocks ∷ past_of core.log)) ≤ length core.rows + core.row_room
  begins-ask-rows = rows-fit s.basis core b.stands

  asked-past : (now : List Event) → now ≡ core.log ++ ask_made s step request blocks ∷ [] → past_of now ≡ ask_made s step request blocks ∷ at.before
  asked-past now e = ap past_of e ∙ past-push core.log (ask_made s step request blocks) ∙ ap (λ (past : List Event). ask_made s step request blocks ∷ past) b.before_is

  pub begins-claim : (now : List Event) → now ≡ core.log ++ ask_made s step request blocks ∷ [] → IsNext s.basis (past_of now) (claim_made s step request release entry)
  begins-claim now e =
      claim-next s at.number step good-one.chosen at.before b.quiet good-one.there good-one.good request release blocks entry made_of (past_of now) (asked-past now e)

  pub begins-claim-rows : (now : Core) → now.log ≡ core.log ++ ask_made s step request blocks ∷ [] → now.row_room + length now.rows ≡ core.row_room + length core.rows → 1 ≤ core.row_room
      → length (rows s.basis (claim_made s step request release entry ∷ past_of now.log)) ≤ length now.rows + now.row_room
  begins-claim-rows now e room one =
      let more = rows-claimed s at.number step good-one.chosen at.before b.quiet good-one.there good-one.good request release blocks entry made_of (past_of now.log) (asked-past now.log e) in
      let have : length core.rows ≡ length (rows s.basis at.before) = ap (λ (rs : List Row). length rs) (b.stands.rows ∙ ap (rows s.basis) b.before_is) in
      omega (arith, more, have, room, one)

  pub begins-put : (now : List Event) (new : Core) → now ≡ core.log ++ ask_made s step request blocks ∷ [] → new.log ≡ now ++ claim_made s step request release entry ∷ [] → Stands s.basis new
      → IsPutting s step (record at { gone = [] }) new
  begins-put now new e f stands = record {
    chosen = good-one.chosen;
    there = good-one.there;
    good = good-one.good;
    quiet = b.quiet;
    stands = stands;
    past_is = put-taken s at.number step good-one.chosen at.before b.quiet good-one.there good-one.good request release blocks entry made_of core.log now new.log b.before_is e f;
  }

-- ---- the steps

ops_behind : Op → List Op
ops_behind Op.Prepare = Op.Detach ∷ Op.Write ∷ Op.Attach ∷ Op.Reload ∷ Op.Cleanup ∷ []
ops_behind Op.Detach = Op.Write ∷ Op.Attach ∷ Op.Reload ∷ Op.Cleanup ∷ []
ops_behind Op.Write = Op.Attach ∷ Op.Reload ∷ Op.Cleanup ∷ []
ops_behind Op.Attach = Op.Reload ∷ Op.Cleanup ∷ []
ops_behind Op.Reload = Op.Cleanup ∷ []
ops_behind Op.Cleanup = []

all-parts : (op : Op) → ops_before op ++ op ∷ ops_behind op ≡ all_ops
unfolding ops_behind
all-parts Op.Prepare = refl
all-parts _ = refl

-- what the device shows is what the log says of it
shown-so : (op : Op) (raw : ℕ) (o : Option DeviceView)
    → option_map_or (λ (view : DeviceView). shown_after op (has_flag DeviceFlag.NeedsReboot view.sheet.flags) raw view.seen) o Seen.Gone
    ≡ shown_after op (option_map_or (λ (view : DeviceView). has_flag DeviceFlag.NeedsReboot view.sheet.flags) o false) raw (option_map_or (λ (view : DeviceView). view.seen) o Seen.Gone)
shown-so op raw None = refl
shown-so op raw (Some view) = refl

module _ (s : Scene) (step : PlanStep) (at : Making) (core : Core) (p : IsPutting s step at core) (entry : ℕ) (same : entry ≡ next_entry s.basis at.before) where
  abbrev own : ℕ
  own = next_entry s.basis at.before

  abbrev so_far : List Event
  so_far = with_some s at.number step p.chosen at.gone at.before

  pub putting-live : IsSome (live_entry (past_of core.log) entry)
  putting-live =
      subst (λ (n : ℕ). IsSome (live_entry (past_of core.log) n)) (sym same)
      (subst (λ (past : List Event). IsSome (live_entry past own)) (sym p.past_is) (some-live s at.number step p.chosen at.before p.quiet at.gone))

  module _ (t : Trace) (traced : trace s.basis entry (past_of core.log) ≡ Some t) (op : Op) where
    next-is : is_next (next_op s.basis so_far own) op ≡ is_next (next_step t) op
    next-is =
        ap (λ (o : Option Trace). is_next (option_and_then next_step o) op)
        (ap (λ (n : ℕ). trace s.basis n so_far) (sym same) ∙ ap (trace s.basis entry) (sym p.past_is) ∙ traced)

    -- one that isn't the next
    pub putting-left : is_next (next_step t) op ≡ false → IsPutting s step (record at { gone = at.gone ++ op ∷ [] }) core
    putting-left h = record {
      chosen = p.chosen;
      there = p.there;
      good = p.good;
      quiet = p.quiet;
      stands = p.stands;
      past_is = p.past_is ∙ sym (step-left s at.number step p.chosen at.before p.quiet p.there p.good at.gone op (next-is ∙ h));
    }

    -- one that is
    module _ (h : is_next (next_step t) op ≡ true) (gone : at.gone ≡ ops_before op) where
      parts : at.gone ++ op ∷ ops_behind op ≡ all_ops
      parts = ap (λ (ops : List Op). ops ++ op ∷ ops_behind op) gone ∙ all-parts op

      abbrev the_end : Event
      the_end = end_of_step s at.number step p.chosen at.before p.quiet p.there p.good at.gone op

      maybe : MayBe s (the_end ∷ Event.Start s.client own op ∷ so_far)
      maybe = step-taken s at.number step p.chosen at.before p.quiet p.there p.good at.gone (ops_behind op) op parts (next-is ∙ h)

      start-is : Event.Start s.client entry op ∷ past_of core.log ≡ Event.Start s.client own op ∷ so_far
      start-is = ap (λ (n : ℕ). Event.Start s.client n op ∷ past_of core.log) same ∙ ap (λ (past : List Event). Event.Start s.client own op ∷ past) p.past_is

      pub start-next : IsNext s.basis (past_of core.log) (Event.Start s.client entry op)
      start-next =
          next-of s (past_of core.log) (Event.Start s.client entry op)
          (subst (MayBe s) (sym start-is) (before-event s (Event.Start s.client own op ∷ so_far) the_end maybe))

      module _ (told : List Mark) (shown : Seen) (digest : List ℕ) (told_is : told ≡ marks op entry digest) (shown_is : shown ≡ shown_on core.views op step)
          (digest_is : option_map (λ (c : Chosen). c.release.digest) (release_at s step.release) ≡ Some digest) where
        abbrev end_made : Event
        end_made = Event.End s.client entry op (Ok tt) told shown

        end-is : end_made ≡ the_end
        end-is =
            ap (λ (ms : List Mark). Event.End s.client entry op (Ok tt) ms shown)
            (told_is ∙ ap (λ (n : ℕ). marks op n digest) same ∙ ap (marks op own) (sym (same_Some _ _ (sym (ap (option_map (λ (c : Chosen). c.release.digest)) p.there) ∙ digest_is))))
            ∙ ap (λ (x : Seen). Event.End s.client entry op (Ok tt) (marks op own p.chosen.release.digest) x)
            (shown_is ∙ ap (λ (vs : List DeviceView). shown_on vs op step) (p.stands.views ∙ ap (views s.basis) p.past_is) ∙ shown-so op step.raw (view_of s step.device so_far))
            ∙ ap (λ (n : ℕ). Event.End s.client n op (Ok tt) (marks op own p.chosen.release.digest)
            (shown_after op (waits_for_boot s step.device so_far) step.raw (seen_of s step.device so_far))) same

        pub end-next : (before : List Event) → before ≡ Event.Start s.client entry op ∷ past_of core.log → IsNext s.basis before end_made
        end-next before e =
            subst (λ (past : List Event). IsNext s.basis past end_made) (sym (e ∙ start-is))
            (next-of s (Event.Start s.client own op ∷ so_far) end_made (subst (λ (event : Event). MayBe s (event ∷ Event.Start s.client own op ∷ so_far)) (sym end-is) maybe))

        pub putting-taken : (now next : List Event) (new : Core) → now ≡ core.log ++ Event.Start s.client entry op ∷ [] → next ≡ now ++ end_made ∷ [] → new.log ≡ next → Stands s.basis new
            → IsPutting s step (record at { gone = at.gone ++ op ∷ [] }) new
        putting-taken now next new e g n stands = record {
          chosen = p.chosen;
          there = p.there;
          good = p.good;
          quiet = p.quiet;
          stands = stands;
          past_is =
              ap past_of (n ∙ g) ∙ past-push now end_made
              ∙ ap (λ (past : List Event). end_made ∷ past) (ap past_of e ∙ past-push core.log (Event.Start s.client entry op) ∙ start-is)
              ∙ ap (λ (event : Event). event ∷ Event.Start s.client own op ∷ so_far) end-is
              ∙ sym (step-with s at.number step p.chosen at.before p.quiet p.there p.good at.gone op (next-is ∙ h));
        }

-- ---- the finish

module _ (s : Scene) (step : PlanStep) (at : Making) (core : Core) (p : IsPutting s step (record at { gone = all_ops }) core) (entry : ℕ) (same : entry ≡ next_entry s.basis at.before) where
  -- the trace by which it ends
  pub record Ends : Type 0 where
    pub t : Trace
    pub traced : trace s.basis entry (past_of core.log) ≡ Some t
    pub ends : end_on core.rows core.views step.device entry t ≡ end_of s at.number step p.chosen at.before

  found_so : Found s at.number step p.chosen at.before
  found_so = let all = tests s at.number step p.chosen at.before p.good in found s at.number step p.chosen at.before p.there all.asked_so

  pub ends-so : Ends
  ends-so =
      let all = tests s at.number step p.chosen at.before p.good in
      let g = goes-whole s at.number step p.chosen at.before p.quiet found_so all.claimed_so in
      let t : Trace = (cleaned s at.number step p.chosen at.before p.quiet found_so).trace in
      record {
        t = t;
        traced =
            ap (λ (n : ℕ). trace s.basis n (past_of core.log)) same
            ∙ ap (trace s.basis (next_entry s.basis at.before)) p.past_is ∙ g.trace_is;
        ends =
            ap (λ (rs : List Row). end_on rs core.views step.device entry t) p.stands.rows
            ∙ ap (λ (vs : List DeviceView). end_on (rows s.basis (past_of core.log)) vs step.device entry t) p.stands.views
            ∙ ap (λ (past : List Event). end_on (rows s.basis past) (views s.basis past) step.device entry t) p.past_is
            ∙ ap (λ (n : ℕ). end_on (rows s.basis (done s at.number step p.chosen at.before)) (views s.basis (done s at.number step p.chosen at.before)) step.device n t) same
            ∙ end-said s at.number step p.chosen at.before p.quiet p.there p.good t g.trace_is;
      }

  module _ (state : RowState) (state_is : state ≡ end_of s at.number step p.chosen at.before) where
    abbrev finish_made : Event
    finish_made = Event.Finish s.client entry state Stored.Yes

    finish-is : finish_made ∷ past_of core.log ≡ installed_with s at.number step p.chosen at.before
    finish-is =
        ap (λ (n : ℕ). Event.Finish s.client n state Stored.Yes ∷ past_of core.log) same
        ∙ ap (λ (x : RowState). Event.Finish s.client (next_entry s.basis at.before) x Stored.Yes ∷ past_of core.log) state_is
        ∙ ap (λ (past : List Event). Event.Finish s.client (next_entry s.basis at.before) (end_of s at.number step p.chosen at.before) Stored.Yes ∷ past) p.past_is

    pub finish-next : IsNext s.basis (past_of core.log) finish_made
    finish-next = next-of s (past_of core.log) finish_made (subst (MayBe s) (sym finish-is) (whole s at.number step p.chosen at.before p.quiet p.there p.good))

    pub finished : (next : List Event) → next ≡ core.log ++ finish_made ∷ [] → past_of next ≡ installed s at.number step at.before
    unfolding installed
    finished next e =
        ap past_of e ∙ past-push core.log finish_made ∙ finish-is
        ∙ sym (ap (λ (o : Option Chosen). option_map_or (λ chosen. installed_with s at.number step chosen at.before) o at.before) p.there)

-- a finish adds no row
pub rows-finished : (basis : Basis) (past : List Event) (client entry : ℕ) (state : RowState) → length (rows basis (Event.Finish client entry state Stored.Yes ∷ past)) ≡ length (rows basis past)
rows-finished basis past client entry state =
    length-map (rows basis past) (with_state entry state (reason_of (rows basis past) entry) (time_of past))
