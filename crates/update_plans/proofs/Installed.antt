-- An install of a good step: each of its events is allowed, it ends as the course of its device does, and a plan may
-- be made behind it.
use Rattle.std.proofs.Common.{cond, ◌≡◌, ℕ, ◌&&◌, ◌||◌, ◌==◌, Bool, true, false, List, [], ◌∷◌, ◌++◌, length, inl, refl, sym, ap, ◌∙◌, arith}
use Rattle.std.specs.Prelude.{Option, Some, None, find, nat_lt, option_map, option_and_then, unwrap_or, if◌then◌else◌}
use Rattle.std.specs.Option.{option_map_or}
use Rattle.std.specs.List.{AllByRecursion}
use Rattle.std.specs.Str.{bytes_eq}
use Rattle.std.proofs.lemmas.Bool.{eqb-true}
use Rattle.std.proofs.lemmas.Option.{same_Some}
use Rattle.fw_facts.specs.declared.flags.DeviceFlag.{DeviceFlag}
use Rattle.fw_facts.specs.declared.seen.Mode.{Mode}
use Rattle.fw_facts.specs.declared.seen.Seen.{Seen}
use Rattle.fw_facts.specs.declared.view.DeviceView.{DeviceView}
use Rattle.fw_facts.specs.Flags.{has_flag}
use Rattle.fw_facts.specs.Views.{is_home, version_of, version_shown}
use Rattle.history_keeper.specs.declared.row.Row.{Row}
use Rattle.history_keeper.specs.declared.row.RowState.{RowState}
use Rattle.history_keeper.specs.declared.change.Change.{Change}
use Rattle.release_catalogue.specs.Lookup.{Chosen}
use Rattle.update_log.specs.declared.answer.ClaimAnswer.{ClaimAnswer}
use Rattle.update_log.specs.declared.decision.Decision.{Decision}
use Rattle.update_log.specs.declared.decision.Stage.{Stage}
use Rattle.update_log.specs.declared.event.Event.{Event}
use Rattle.update_log.specs.declared.event.Op.{Op}
use Rattle.update_log.specs.declared.event.Stored.{Stored}
use Rattle.update_log.specs.declared.live.Held.{Held}
use Rattle.update_log.specs.declared.live.LiveEntry.{LiveEntry}
use Rattle.update_log.specs.declared.live.OpenStep.{OpenStep}
use Rattle.update_log.specs.declared.refusal.FetchNote.{FetchNote}
use Rattle.update_log.specs.declared.request.Request.{Request}
use Rattle.update_log.specs.declared.trace.Trace.{Trace}
use Rattle.update_log.specs.Boards.{Board}
use Rattle.update_log.specs.Holding.{blocks_of, hold, holds, live, live_entry, open_steps, step_open, without_entry}
use Rattle.update_log.specs.Known.{Fate, Target, known, new_row, row_of, rows, rows_by, target, view_of as view_in, views}
use Rattle.update_log.specs.Legal.{ClaimAnswered, IsLegalUnlimited, UnchangedExactly, is_fetched, next_entry}
use Rattle.update_log.specs.Pasts.{time_of}
use Rattle.update_log.specs.Shows.{campaign_on, Campaign}
use Rattle.update_log.specs.Steps.{all_ops, closing, closing_at, closing_of, may_be_next, judge_shown, mode_of, next_step, trace, view_of_row, waits_for_boot}
use Rattle.update_log.specs.Verdicts.{need, verdict}
use Rattle.update_log.proofs.LegalOnce.{PastKept, past-kept-on}
use Rattle.update_log.proofs.Lists.{All-find, eqb-self, find-passes, find-push_new}
use Rattle.update_log.proofs.Openings.{bytes-same, bytes-self}
use Rattle.update_log.proofs.RowsKept.{row_of-past}
use Rattle.update_log.proofs.StepsKept.{OpenKept}
use Rattle.update_plans.specs.declared.course.Course.{Course}
use Rattle.update_plans.specs.declared.plan.PlanStep.{PlanStep}
use Rattle.update_plans.specs.Courses.{course_step, ends_so, ends_well, shows_version, trace_begun}
use Rattle.update_plans.specs.Following.{IsQuiet}
use Rattle.update_plans.specs.Plans.{Scene, accepts, asked, done, end_of, has_id, installed_with, is_ended, is_good_with, release_at, request_of, taken, view_of, writes}
use Rattle.version_formats.specs.Formats.{render}
use Rattle.version_formats.specs.VersionOrder.{same_version}
use Rattle.version_formats.specs.declared.format.Format.{Format}
use Rattle.update_plans.proofs.Claims.{accepted_twice}
use Rattle.update_plans.proofs.Coursed.{attached, course_is, is-runtime, later-runtime, none_left, reload_ended, returns-detach, returns-first, returns-prepare, returns-write, went-write}
use Rattle.update_plans.proofs.Installing.{Goes, goes-on}
use Rattle.update_plans.proofs.Shown.{IsOf, board-of, view-now}
use Rattle.update_plans.proofs.Targets.{Found, found, tests}

-- the one live entry is found, and none is left without it
only-live : (past : List Event) (l : LiveEntry) → live past ≡ l ∷ [] → live_entry past l.entry ≡ Some l
only-live past l e = ap (find (λ x. x.entry == l.entry)) e ∙ rw (eqb-self l.entry) refl

none-left : (past : List Event) (l : LiveEntry) → live past ≡ l ∷ [] → without_entry l.entry (live past) ≡ []
none-left past l e = ap (without_entry l.entry) e ∙ rw (eqb-self l.entry) refl

none-found : {X : Type 0} (p : X → Bool) (xs : List X) → AllByRecursion (λ x. p x ≡ false) xs → find p xs ≡ None
none-found p [] a = refl
none-found p (x ∷ xs) a = ap (λ (b : Bool). cond b (Some x) (find p xs)) a.0 ∙ none-found p xs a.1

module _ (s : Scene) (number : ℕ) (step : PlanStep) (chosen : Chosen) (past : List Event) (q : IsQuiet s past) (f : Found s number step chosen past) where
  abbrev pub entry : ℕ
  entry = next_entry s.basis past

  -- the campaign over the scene's basis
  abbrev here : Campaign
  here = campaign_on s.basis q.first q.plans

  legal-here : IsLegalUnlimited here past
  legal-here = q.legal

  pub kept : PastKept s.basis past
  kept = past-kept-on here past q.history legal-here

  abbrev pub asks : Request
  asks = request_of s number step chosen

  blocks_are : need f.t ≡ blocks_of chosen.release.size
  blocks_are = ap (λ (c : Chosen). blocks_of c.release.size) f.chosen_is

  release_is : f.t.chosen.at ≡ step.release
  release_is = ap (λ (c : Chosen). c.at) f.chosen_is ∙ sym f.at_is

  -- ---- the ask

  ask-legal : IsLegalUnlimited here (asked s number step chosen past)
  ask-legal = (
    legal-here,
    record { booted = λ h. q.booted; on = λ h. q.on },
    record {
      free = record { hold = rw q.no_hold refl; live = rw q.none_live refl };
      pending_is = tt;
      answer_is = rw (f.decided_is, release_is, blocks_are) refl;
    },
  )

  -- ---- the claim

  abbrev held : Held
  held = record { client = s.client; request = asks; pending = None; blocks = blocks_of chosen.release.size; release = step.release }

  held-is : hold (asked s number step chosen past) s.client ≡ Some held
  held-is = rw (q.no_hold, eqb-self s.client) refl

  abbrev fetched : FetchNote
  fetched = FetchNote.Whole chosen.release.digest chosen.release.size step.raw

  fetched-is : is_fetched fetched (target s.basis.facts (views s.basis past) asks) ≡ true
  fetched-is = rw (f.target_is, f.chosen_is, bytes-self chosen.release.digest, eqb-self chosen.release.size) refl

  claim-answered : (d : Decision) → accepts step.release d ≡ true
      → ClaimAnswered fetched (target s.basis.facts (views s.basis past) asks) entry d (ClaimAnswer.Entry entry)
  claim-answered (Decision.Accept device release blocks) h = rw fetched-is (inl refl)
  claim-answered (Decision.Kept e state) h = cc
  claim-answered (Decision.Refused refusal) h = cc

  claim-legal : accepts step.release (verdict s.basis (asked s number step chosen past) s.client asks (Stage.Claim step.release)) ≡ true
      → IsLegalUnlimited here (taken s number step chosen (asked s number step chosen past))
  claim-legal h = (
    ask-legal,
    record { booted = λ h. q.booted; on = λ h. q.on },
    (
      held,
      record {
        held_is = held-is;
        request_is = refl;
        pending = refl;
        answer_is = claim-answered (verdict s.basis (asked s number step chosen past) s.client asks (Stage.Claim step.release)) h;
      },
    ),
  )

  -- ---- what the claim makes of the log

  abbrev pub begun : List Event
  begun = taken s number step chosen (asked s number step chosen past)

  abbrev pub row : Row
  row = new_row entry (time_of past) s.client asks RowState.Begun f.t

  pub rows-begun : rows s.basis begun ≡ rows s.basis past ++ row ∷ []
  rows-begun =
      ap (λ (o : Option Target). rows_by Fate.Made (option_map (λ t. Change.Add (new_row entry (time_of past) s.client asks RowState.Begun t)) o) (rows s.basis past)) f.target_is

  row-begun : row_of (rows s.basis begun) entry ≡ Some row
  row-begun =
      ap (λ (all : List Row). row_of all entry) rows-begun
      ∙ find-push_new (λ r. r.entry == entry) (rows s.basis past) row
      (row_of-past 1 (rows s.basis past) entry kept.rows_kept.valid.entries (omega arith)) (eqb-self entry)

  live-begun : live begun ≡ record { client = s.client; entry = entry; blocks = blocks_of chosen.release.size } ∷ []
  live-begun = rw q.none_live refl

  holds-begun : holds begun ≡ []
  holds-begun = rw (q.no_hold, eqb-self s.client) refl

  trace-begun : trace s.basis entry begun ≡ Some (trace_begun f.t.view f.t.chosen.component)
  trace-begun = rw (eqb-self entry, f.target_is) refl

  -- no step of a new entry is open
  closed-begun : step_open begun entry ≡ None
  closed-begun = of (find (λ x. x.entry == entry) (open_steps past)) refl
    where
      of : (o : Option OpenStep) → find (λ x. x.entry == entry) (open_steps past) ≡ o → o ≡ None
      of None e = refl
      of (Some x) e =
          let opened : OpenKept past x = All-find (OpenKept past) (λ x. x.entry == entry) (open_steps past) x kept.steps.open_are e in
          let same : x.entry ≡ entry = eqb-true x.entry entry (find-passes (λ x. x.entry == entry) (open_steps past) x e) in
          let fresh = kept.steps.fresh x.entry (omega (arith, same)) in
          let started = opened.started in
          cc

  -- ---- the steps

  pub board : (b : Board) × IsOf s step.device b
  board = board-of s step.device past f.t.view f.view_is

  abbrev pub b : Board
  b = board.0

  abbrev pub first : Course
  first = record { trace = trace_begun f.t.view f.t.chosen.component; seen = f.t.view.seen }

  -- the view that was found is the board's
  pub view-is : f.t.view ≡ view_in (live past) (known s.basis past) b
  view-is = same_Some _ _ (sym f.view_is ∙ view-now s step.device b past board.1)

  pub flags-are : has_flag DeviceFlag.NeedsReboot f.t.view.sheet.flags ≡ has_flag DeviceFlag.NeedsReboot b.sheet.flags
  flags-are = ap (λ (v : DeviceView). has_flag DeviceFlag.NeedsReboot v.sheet.flags) view-is

  pub device-is : f.t.view.sheet.device ≡ step.device
  device-is = bytes-same f.t.view.sheet.device step.device (find-passes (has_id step.device) (views s.basis past) f.t.view f.view_is)

  pub home-first : (raw : ℕ) × (mode : Mode) × (f.t.view.seen ≡ Seen.Home raw mode)
  home-first = of f.t.view.seen refl f.home
    where
      of : (x : Seen) → f.t.view.seen ≡ x → is_home f.t.view.seen ≡ true → (raw : ℕ) × (mode : Mode) × (f.t.view.seen ≡ Seen.Home raw mode)
      of (Seen.Home raw mode) e h = (raw, mode, e)
      of Seen.Gone e h = let bad : false ≡ true = sym (ap is_home e) ∙ h in cc
      of Seen.Stranger e h = let bad : false ≡ true = sym (ap is_home e) ∙ h in cc

  abbrev pub G : List Event → Course → Type 0
  G = Goes s step chosen q.first q.plans entry b board.1 f.t.view flags-are

  goes-first : accepts step.release (verdict s.basis (asked s number step chosen past) s.client asks (Stage.Claim step.release)) ≡ true → G begun first
  goes-first h = record {
    legal = claim-legal h;
    booted = q.booted;
    on = q.on;
    row = row;
    row_is = row-begun;
    device_is = device-is;
    version_is = ap (λ (c : Chosen). c.release.version) f.chosen_is;
    digest_is = ap (λ (c : Chosen). c.release.digest) f.chosen_is;
    blocks = blocks_of chosen.release.size;
    live_is = live-begun;
    holds_are = holds-begun;
    closed = closed-begun;
    trace_is = trace-begun;
    flags_are = refl;
    seen_is = sym (ap (λ (v : DeviceView). v.seen) view-is);
    raw_is = rw (eqb-self entry) refl;
    raw = home-first.0;
    mode = home-first.1;
    home = home-first.2;
    returns = returns-first first refl;
  }

  -- the courses behind each step
  abbrev pub prepared : Course
  prepared = course_step step.raw first Op.Prepare

  abbrev pub detached : Course
  detached = course_step step.raw prepared Op.Detach

  abbrev pub written : Course
  written = course_step step.raw detached Op.Write

  abbrev pub back : Course
  back = course_step step.raw written Op.Attach

  abbrev pub looked : Course
  looked = course_step step.raw back Op.Reload

  abbrev pub cleaned : Course
  cleaned = course_step step.raw looked Op.Cleanup

  pub goes-whole : accepts step.release (verdict s.basis (asked s number step chosen past) s.client asks (Stage.Claim step.release)) ≡ true → G (done s number step chosen past) cleaned
  goes-whole h =
      let on = goes-on s step chosen q.first q.plans entry b board.1 f.t.view flags-are in
      let g0 : G begun first = goes-first h in
      let g1 = on begun first Op.Prepare g0 (λ n. tt) (returns-prepare step.raw first g0.raw g0.mode g0.home g0.returns) in
      let g2 = on _ prepared Op.Detach g1 (λ n. tt) (returns-detach step.raw prepared g1.returns) in
      let g3 = on _ detached Op.Write g2 (λ n. tt) (returns-write step.raw detached g2.raw g2.mode g2.home g2.returns) in
      let run4 = attached step.raw written g3.raw g3.mode g3.home (went-write step.raw first refl) g3.returns in
      let g4 = on _ written Op.Attach g3 (λ n. tt) (inl run4) in
      let run5 = later-runtime step.raw back Op.Reload g4.raw g4.mode g4.home refl run4 in
      let g5 = on _ back Op.Reload g4 (λ n. is-runtime (mode_of back.seen) run4) (inl run5) in
      let run6 = later-runtime step.raw looked Op.Cleanup g5.raw g5.mode g5.home refl run5 in
      on _ looked Op.Cleanup g5 (λ n. is-runtime (mode_of looked.seen) run5) (inl run6)

  -- ---- the finish

  none-next : (t : Trace) → AllByRecursion (λ o. may_be_next t o ≡ false) all_ops → next_step t ≡ None
  none-next t none = none-found (may_be_next t) all_ops none

  -- its board's view, as the log stands before the finish
  abbrev view_done : DeviceView
  view_done = view_in (live (done s number step chosen past)) (known s.basis (done s number step chosen past)) b

  closing-is : (g : G (done s number step chosen past) cleaned) → closing s.basis (done s number step chosen past) entry ≡ Some (closing_of cleaned.trace g.row view_done)
  closing-is g =
      ap (option_and_then (λ t. option_and_then (closing_at (views s.basis (done s number step chosen past)) t) (row_of (rows s.basis (done s number step chosen past)) entry))) g.trace_is
      ∙ ap (option_and_then (closing_at (views s.basis (done s number step chosen past)) cleaned.trace)) g.row_is
      ∙ ap (option_map (closing_of cleaned.trace g.row)) (view-of-row g)
    where
      view-of-row : (g : G (done s number step chosen past) cleaned) → view_of_row (views s.basis (done s number step chosen past)) g.row ≡ Some view_done
      view-of-row g =
          ap (λ (device : List ℕ). find (λ v. bytes_eq v.sheet.device device) (views s.basis (done s number step chosen past))) g.device_is
          ∙ view-now s step.device b (done s number step chosen past) board.1

  end-is : (g : G (done s number step chosen past) cleaned) → end_of s number step chosen past ≡ closing_of cleaned.trace g.row view_done
  end-is g = ap (λ (o : Option RowState). unwrap_or o RowState.Begun) (closing-is g)

  -- whether it ends well is what its device alone says
  ends-so : (g : G (done s number step chosen past) cleaned) → is_ended (end_of s number step chosen past) ≡ ends_well f.t.view f.t.chosen.component chosen.release.version step.raw
  ends-so g =
      ap is_ended (end-is g)
      ∙ ap is_ended (ap (λ (t : Bool). if t && is_home view_done.seen then (if waits_for_boot cleaned.trace then RowState.NeedsReboot else judge_shown (version_of view_done) g.row) else RowState.Begun) (reload_ended step.raw first refl))
      ∙ shown
      ∙ ap (ends_so f.t.view.sheet.format chosen.release.version) (sym (course_is step.raw (trace_begun f.t.view f.t.chosen.component) f.t.view.seen))
    where
      seen-done : view_done.seen ≡ Seen.Home g.raw g.mode
      seen-done = g.seen_is ∙ g.home

      format : b.sheet.format ≡ f.t.view.sheet.format
      format = sym (ap (λ (v : DeviceView). v.sheet.format) view-is)

      judged : (same : Bool) → is_ended (if same then RowState.Success else RowState.Failed) ≡ same
      judged true = refl
      judged false = refl

      at-home : (raw : ℕ) (mode : Mode) (waits : Bool)
          → is_ended (if waits then RowState.NeedsReboot else judge_shown (version_shown b.sheet (Seen.Home raw mode)) g.row) ≡ (waits || shows_version f.t.view.sheet.format chosen.release.version (Seen.Home raw mode))
      at-home raw mode true = refl
      at-home raw mode false =
          judged (same_version (render b.sheet.format raw) g.row.version_new)
          ∙ ap (λ (v : List ℕ). same_version (render b.sheet.format raw) v) g.version_is ∙ ap (λ (form : Format). same_version (render form raw) chosen.release.version) format

      shown : is_ended (if true && is_home view_done.seen then (if waits_for_boot cleaned.trace then RowState.NeedsReboot else judge_shown (version_of view_done) g.row) else RowState.Begun)
          ≡ ends_so f.t.view.sheet.format chosen.release.version cleaned
      shown =
          ap (λ (x : Seen). is_ended (if is_home x then (if waits_for_boot cleaned.trace then RowState.NeedsReboot else judge_shown (version_shown b.sheet x) g.row) else RowState.Begun)) seen-done
          ∙ at-home g.raw g.mode (waits_for_boot cleaned.trace)
          ∙ sym (ap (λ (x : Seen). is_home x && (waits_for_boot cleaned.trace || shows_version f.t.view.sheet.format chosen.release.version x)) g.home)

  ended-changes : (state : RowState) → is_ended state ≡ true → UnchangedExactly state Stored.Yes
  ended-changes RowState.Success h = λ e. cc
  ended-changes RowState.NeedsReboot h = λ e. cc
  ended-changes _ h = cc

  finish-legal : G (done s number step chosen past) cleaned → is_ended (end_of s number step chosen past) ≡ true → IsLegalUnlimited here (installed_with s number step chosen past)
  finish-legal g h = (
    g.legal,
    record { booted = λ e. g.booted; on = λ e. g.on },
    (
      record { client = s.client; entry = entry; blocks = g.blocks },
      end_of s number step chosen past,
      record {
        live = only-live (done s number step chosen past) (record { client = s.client; entry = entry; blocks = g.blocks }) g.live_is;
        client_is = refl;
        open_none = g.closed;
        done = ap (option_and_then next_step) g.trace_is ∙ none-next cleaned.trace (none_left step.raw first refl);
        closing = closing-is g ∙ ap (λ (x : RowState). Some x) (sym (end-is g));
        state_is = refl;
        unchanged = ended-changes (end_of s number step chosen past) h;
      },
    ),
  )

  -- behind it a plan may be made again
  quiet-again : G (done s number step chosen past) cleaned → is_ended (end_of s number step chosen past) ≡ true → IsQuiet s (installed_with s number step chosen past)
  quiet-again g h = record {
    first = q.first;
    plans = q.plans;
    legal = finish-legal g h;
    history = q.history;
    booted = g.booted;
    on = g.on;
    no_hold = g.holds_are;
    none_live = none-left (done s number step chosen past) (record { client = s.client; entry = entry; blocks = g.blocks }) g.live_is;
    client = q.client;
  }

-- So behind the install of a good step a plan may be made again.
pub installed-quiet : (s : Scene) (number : ℕ) (step : PlanStep) (chosen : Chosen) (past : List Event) → IsQuiet s past → release_at s step.release ≡ Some chosen
    → is_good_with s number step past chosen ≡ true → IsQuiet s (installed_with s number step chosen past)
installed-quiet s number step chosen past q there good =
    let all = tests s number step chosen past good in
    let f = found s number step chosen past there all.asked_so in
    quiet-again s number step chosen past q f (goes-whole s number step chosen past q f all.claimed_so) all.ended_so

-- ---- whether a step is good, as the code finds it

-- What is tested one after the other, where the third and the fourth are others' tests.
tests-same : (w a p c e x : Bool) → (a ≡ true → c ≡ p) → (w ≡ true → a ≡ true → c ≡ true → x ≡ e) → (w && a && c && x) ≡ (w && (a && p) && e)
tests-same false a p c e x third fourth = refl
tests-same true false p c e x third fourth = refl
tests-same true true p true e x third fourth = rw (sym (third refl)) (fourth refl refl refl)
tests-same true true p false e x third fourth = rw (sym (third refl)) refl

-- The version is written, the ask is accepted and the history has place for a row, and its device alone ends well.
pub good-is : (s : Scene) (number : ℕ) (step : PlanStep) (chosen : Chosen) (past : List Event) (v : DeviceView) → IsQuiet s past → release_at s step.release ≡ Some chosen → view_of s step.device past ≡ Some v
    → is_good_with s number step past chosen
    ≡ ((same_version (render v.sheet.format step.raw) chosen.release.version
    && (accepts step.release (verdict s.basis past s.client (request_of s number step chosen) Stage.Ask) && nat_lt (length (rows s.basis past)) 65536))
    && ends_well v chosen.component chosen.release.version step.raw)
good-is s number step chosen past v q there at_home =
    ap (λ (w : Bool). w && asks && claims && is_ended (end_of s number step chosen past)) written
    ∙ tests-same (same_version (render v.sheet.format step.raw) chosen.release.version) asks (nat_lt (length (rows s.basis past)) 65536) claims (ends_well v chosen.component chosen.release.version step.raw)
    (is_ended (end_of s number step chosen past)) (λ a. accepted_twice s number step chosen past a) (λ w a c. ends a c)
  where
    asks : Bool
    asks = accepts step.release (verdict s.basis past s.client (request_of s number step chosen) Stage.Ask)

    claims : Bool
    claims = accepts step.release (verdict s.basis (asked s number step chosen past) s.client (request_of s number step chosen) (Stage.Claim step.release))

    written : writes s step chosen past ≡ same_version (render v.sheet.format step.raw) chosen.release.version
    written = ap (λ (o : Option DeviceView). option_map_or (λ view. same_version (render view.sheet.format step.raw) chosen.release.version) o false) at_home

    ends : asks ≡ true → claims ≡ true → is_ended (end_of s number step chosen past) ≡ ends_well v chosen.component chosen.release.version step.raw
    ends a c =
        let f = found s number step chosen past there a in
        let same : f.t.view ≡ v = same_Some _ _ (sym f.view_is ∙ at_home) in
        ends-so s number step chosen past q f (goes-whole s number step chosen past q f c)
        ∙ ap (λ (view : DeviceView). ends_well view f.t.chosen.component chosen.release.version step.raw) same
        ∙ ap (λ (c : Chosen). ends_well v c.component chosen.release.version step.raw) f.chosen_is
