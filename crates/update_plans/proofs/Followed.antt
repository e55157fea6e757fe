-- A log that goes on by plays of planned steps stands as the planned log does, but for raw numbers that show one text.
use Rattle.std.proofs.Common.{◌≡◌, ℕ, suc, ◌+◌, ◌&&◌, ◌||◌, ◌==◌, Bool, true, false, not, List, [], ◌∷◌, ◌++◌, length, map, refl, sym, ap, ◌∙◌, subst, arith}
use Rattle.std.specs.Prelude.{Option, Some, None, find, slice_get, option_map, unwrap_or, if◌then◌else◌}
use Rattle.std.specs.List.{AllByRecursion}
use Rattle.std.specs.Str.{bytes_eq}
use Rattle.std.specs.Ordering.{is_eq, ordering_reverse}
use Rattle.std.specs.declared.cmp.Ordering.{Ordering}
use Rattle.std.specs.declared.cmp.Ordering.TheVariants.{Less, Equal, Greater}
use Rattle.std.proofs.lemmas.Bool.{eqb-true, or_parts, and_parts}
use Rattle.std.proofs.lemmas.Option.{same_Some}
use Rattle.version_formats.specs.Formats.{render}
use Rattle.version_formats.specs.VersionOrder.{same_version, version_cmp}
use Rattle.version_formats.proofs.VersionLaws.{version_cmp-back}
use Rattle.fw_facts.specs.declared.flags.DeviceFlag.{DeviceFlag}
use Rattle.fw_facts.specs.declared.seen.Mode.{Mode}
use Rattle.fw_facts.specs.declared.seen.Seen.{Seen}
use Rattle.fw_facts.specs.declared.sheet.Sheet.{Sheet}
use Rattle.fw_facts.specs.declared.view.DeviceView.{DeviceView}
use Rattle.fw_facts.specs.Flags.{has_flag}
use Rattle.fw_facts.specs.Views.{flags_of, flags_shown, guids_shown, is_home, version_of, version_shown}
use Rattle.history_keeper.specs.declared.row.Row.{Row}
use Rattle.history_keeper.specs.declared.row.RowState.{RowState}
use Rattle.release_catalogue.specs.Lookup.{Chosen}
use Rattle.release_catalogue.specs.declared.reference.ReleaseRef.{ReleaseRef}
use Rattle.update_log.specs.declared.answer.AskAnswer.{AskAnswer}
use Rattle.update_log.specs.declared.answer.ClaimAnswer.{ClaimAnswer}
use Rattle.update_log.specs.declared.decision.Stage.{Stage}
use Rattle.update_log.specs.declared.event.Event.{Event}
use Rattle.update_log.specs.declared.event.Op.{Op}
use Rattle.update_log.specs.declared.event.Stored.{Stored}
use Rattle.update_log.specs.declared.facts.BootPlan.{BootPlan}
use Rattle.update_log.specs.declared.facts.Facts.{Facts}
use Rattle.update_log.specs.declared.live.Held.{Held}
use Rattle.update_log.specs.declared.live.LiveEntry.{LiveEntry}
use Rattle.update_log.specs.declared.refusal.FetchNote.{FetchNote}
use Rattle.update_log.specs.declared.refusal.Refusal.{Refusal}
use Rattle.update_log.specs.declared.request.Request.{Request}
use Rattle.update_log.specs.declared.trace.Trace.{Trace}
use Rattle.update_log.specs.Boards.{Board, all_boards, boards_from, devices, is_device}
use Rattle.update_log.specs.Holding.{blocks_of, blocks_out, held, holds, live}
use Rattle.update_log.specs.Known.{Target, flags_number, is_on, known, new_row, row_of, rows, seen, target, view_of as view_in, views}
use Rattle.update_log.specs.Legal.{IsLegal, UnchangedExactly, closing_stored, next_entry}
use Rattle.update_log.specs.Pasts.{is_fault, off, time_of}
use Rattle.update_log.specs.Shows.{campaign_on, Campaign}
use Rattle.update_log.specs.Steps.{all_ops, closing, closing_of, ended_well, judge_shown, mode_of, waits_for_boot}
use Rattle.update_log.specs.Verdicts.{Case, case_of, decided, shown_by, verdict, where_so}
use Rattle.update_log.proofs.Accepts.{none-refuses}
use Rattle.update_log.proofs.Lists.{All-filter, All-find, All-map, by_test}
use Rattle.update_log.proofs.Openings.{bytes-same}
use Rattle.update_log.proofs.Rows.{accepted-claim}
use Rattle.update_log.proofs.RowsKept.{row_of-past}
use Rattle.update_plans.specs.Following.{IsAcceptedNext, IsFollowed, IsPlayed, IsQuiet, is_mode, is_version, shows_alike}
use Rattle.update_plans.specs.Plans.{Scene, accepts, after, asked, done, end_of, first_bad, installed, installed_with, is_ended, is_good, is_good_with, release_at, request_of, taken, view_of}
use Rattle.update_plans.specs.declared.plan.PlanStep.{PlanStep}
use Rattle.update_plans.proofs.Alike.{AllLike, Like, SameTarget, decided-like, target-like}
use Rattle.update_plans.proofs.Chained.{Good, good-step, quiet-on}
use Rattle.update_plans.proofs.Coursed.{Keeps, keeps-whole}
use Rattle.update_plans.proofs.Installed.{board, cleaned, device-is, first as course_first, goes-whole, home-first, kept, view-is}
use Rattle.update_plans.proofs.Played.{AreSteps, Closes, Made, Steps, closes, each-step, left, made, rows_with, with-steps}
use Rattle.update_plans.proofs.Shown.{IsOf, view-now}
use Rattle.update_plans.proofs.Targets.{Found, Tests, found, tests}

-- ---- what a board shows

-- Of both the same is shown, but perhaps another raw number.
pub record LikeSeen (sheet : Sheet) (x y : Seen) : Type 0 where
  pub home : is_home x ≡ is_home y
  pub guids : guids_shown sheet x ≡ guids_shown sheet y
  pub version : version_shown sheet x ≡ version_shown sheet y
  pub flags : flags_shown sheet x ≡ flags_shown sheet y

same-shown : (sheet : Sheet) (x : Seen) → LikeSeen sheet x x
same-shown sheet x = record { home = refl; guids = refl; version = refl; flags = refl }

-- one text and one mode are enough, of a board at home
shown-like : (sheet : Sheet) (x y : Seen) → is_home y ≡ true → (is_version (version_shown sheet x) (version_shown sheet y) && is_mode (mode_of x) (mode_of y)) ≡ true → LikeSeen sheet x y
shown-like sheet Seen.Gone Seen.Gone h a = cc
shown-like sheet Seen.Stranger Seen.Gone h a = cc
shown-like sheet (Seen.Home raw mode) (Seen.Home raw' mode') h a =
    let parts = and_parts (is_version (version_shown sheet (Seen.Home raw mode)) (version_shown sheet (Seen.Home raw' mode'))) (is_mode mode mode') a in
    of mode mode' (bytes-same (render sheet.format raw) (render sheet.format raw') parts.0) parts.1
  where
    of : (m m' : Mode) → render sheet.format raw ≡ render sheet.format raw' → is_mode m m' ≡ true → LikeSeen sheet (Seen.Home raw m) (Seen.Home raw' m')
    of Mode.Runtime Mode.Runtime text h = record { home = refl; guids = refl; version = ap (λ (v : List ℕ). Some v) text; flags = refl }
    of Mode.Bootloader Mode.Bootloader text h = record { home = refl; guids = refl; version = ap (λ (v : List ℕ). Some v) text; flags = refl }
    of Mode.Runtime Mode.Bootloader text h = cc
    of Mode.Bootloader Mode.Runtime text h = cc
shown-like sheet _ _ h a = cc

-- ---- each device's sheet stands under its number

abbrev HasSheet : Facts → Board → Type 0
HasSheet facts b = slice_get facts.sheets b.number ≡ Some b.sheet

record Numbered (n : ℕ) (sheets : List Sheet) (c : Board) : Type 0 where
  k : ℕ
  at : c.number ≡ n + k
  sheet : slice_get sheets k ≡ Some c.sheet

numbered : (n : ℕ) (sheets : List Sheet) → AllByRecursion (Numbered n sheets) (boards_from n sheets)
numbered n [] = tt
numbered n (s ∷ sheets) = (
  record { k = 0; at = omega arith; sheet = refl },
  All-map (Numbered (n + 1) sheets) (Numbered n (s ∷ sheets)) (boards_from (n + 1) sheets) (numbered (n + 1) sheets)
      (λ c h. record { k = suc h.k; at = (let e = h.at in omega (arith, e)); sheet = h.sheet }),
)

has-sheets : (facts : Facts) → AllByRecursion (HasSheet facts) (devices facts)
has-sheets facts =
    All-filter (Numbered 0 facts.sheets) (HasSheet facts) (is_device facts) (all_boards facts) (numbered 0 facts.sheets)
    (λ c h d. let same : c.number ≡ h.k = (let e = h.at in omega (arith, e)) in ap (slice_get facts.sheets) same ∙ h.sheet)

-- ---- two logs that stand alike

-- The rows and the time are the same, nothing is out, and each board shows the same, but perhaps another raw number.
pub record Same (s : Scene) (p q : List Event) : Type 0 where
  pub rows_are : rows s.basis p ≡ rows s.basis q
  pub time_is : time_of p ≡ time_of q
  pub live_one : live p ≡ []
  pub live_other : live q ≡ []
  pub hold_one : holds p ≡ []
  pub hold_other : holds q ≡ []
  pub shown : (n : ℕ) (sheet : Sheet) → slice_get s.basis.facts.sheets n ≡ Some sheet → LikeSeen sheet (seen s.basis p n) (seen s.basis q n)

module _ (s : Scene) (p q : List Event) (same : Same s p q) where
  view-like : (b : Board) → HasSheet s.basis.facts b → Like (view_in (live p) (known s.basis p) b) (view_in (live q) (known s.basis q) b)
  view-like b has =
      let l = same.shown b.number b.sheet has in
      record {
        sheet = refl;
        claim = no-claim p same.live_one ∙ sym (no-claim q same.live_other);
        home = l.home;
        guids = l.guids;
        version = l.version;
        flags = l.flags;
      }
    where
      no-claim : (past : List Event) → live past ≡ [] → option_map (λ (l : LiveEntry). l.entry) (find (is_on (rows s.basis past) b.sheet.device) (live past)) ≡ None
      no-claim past e = ap (λ (ls : List LiveEntry). option_map (λ (l : LiveEntry). l.entry) (find (is_on (rows s.basis past) b.sheet.device) ls)) e

  all-like : (bs : List Board) → AllByRecursion (HasSheet s.basis.facts) bs
      → AllLike (map (view_in (live p) (known s.basis p)) bs) (map (view_in (live q) (known s.basis q)) bs)
  all-like [] a = tt
  all-like (b ∷ bs) a = (view-like b a.0, all-like bs a.1)

  pub views-like : AllLike (views s.basis p) (views s.basis q)
  views-like = all-like (devices s.basis.facts) (has-sheets s.basis.facts)

  -- So the same is decided of every request.
  pub verdict-like : (client : ℕ) (request : Request) (stage : Stage) → verdict s.basis p client request stage ≡ verdict s.basis q client request stage
  verdict-like client request stage =
      decided-like s.basis.facts (views s.basis p) (views s.basis q) views-like (rows s.basis p) (live p) (held p) client request stage
      ∙ ap (λ (rs : List Row). decided (about rs (live p) (held p))) same.rows_are
      ∙ ap (λ (ls : List LiveEntry). decided (about (rows s.basis q) ls (held p))) (same.live_one ∙ sym same.live_other)
      ∙ ap (λ (n : ℕ). decided (about (rows s.basis q) (live q) n)) held-same
    where
      about : List Row → List LiveEntry → ℕ → Case
      about rs ls n = record { facts = s.basis.facts; views = views s.basis q; rows = rs; live = ls; held = n; client = client; request = request; stage = stage }

      held-same : held p ≡ held q
      held-same = ap (λ (hs : List Held). blocks_out hs (live p)) (same.hold_one ∙ sym same.hold_other) ∙ ap (blocks_out (holds q)) (same.live_one ∙ sym same.live_other)

-- ---- in which state a play ends

reverse-eq : (o : Ordering) → is_eq (ordering_reverse o) ≡ is_eq o
reverse-eq Less = refl
reverse-eq Equal = refl
reverse-eq Greater = refl

same_version-back : (a b : List ℕ) → same_version a b ≡ same_version b a
same_version-back a b = ap is_eq (version_cmp-back b a) ∙ reverse-eq (version_cmp b a)

-- The end of an entry that ends well: of a device that needs a boot or not, whose write went well or not, and that shows the new version or not.
abbrev settled : Bool → Bool → Bool → RowState
settled waits written same = if waits && written then RowState.NeedsReboot else (if same then RowState.Success else RowState.Failed)

-- it doesn't rest on the write, where a device that needs a boot shows another version
settled-same : (waits written written' same : Bool) → is_ended (settled waits written same) ≡ true → is_ended (settled waits written' same) ≡ true → (waits ≡ true → same ≡ false)
    → settled waits written same ≡ settled waits written' same
settled-same false written written' same h k other = refl
settled-same true true true same h k other = refl
settled-same true true false true h k other = let bad : true ≡ false = other refl in cc
settled-same true true false false h k other = cc
settled-same true false true true h k other = let bad : true ≡ false = other refl in cc
settled-same true false true false h k other = cc
settled-same true false false same h k other = refl

closes-settled : (t : Trace) (row : Row) (view : DeviceView) (text : List ℕ) → version_of view ≡ Some text → is_ended (closing_of t row view) ≡ true
    → closing_of t row view ≡ settled (has_flag DeviceFlag.NeedsReboot t.flags) (ended_well Op.Write t.steps) (same_version text row.version_new)
closes-settled t row view text shows h =
    of (ended_well Op.Reload t.steps && is_home view.seen) h
    ∙ ap (λ (o : Option (List ℕ)). if waits_for_boot t then RowState.NeedsReboot else judge_shown o row) shows
  where
    of : (b : Bool) → is_ended (if b then (if waits_for_boot t then RowState.NeedsReboot else judge_shown (version_of view) row) else RowState.Begun) ≡ true
        → (if b then (if waits_for_boot t then RowState.NeedsReboot else judge_shown (version_of view) row) else RowState.Begun) ≡ (if waits_for_boot t then RowState.NeedsReboot else judge_shown (version_of view) row)
    of true h = refl
    of false h = cc

-- The finish of an entry that ended well was stored.
stored-yes : (closed : RowState) (stored : Stored) → UnchangedExactly closed stored → is_ended (closing_stored closed stored) ≡ true → is_fault stored ≡ false → stored ≡ Stored.Yes
stored-yes closed Stored.Yes u h f = refl
stored-yes RowState.Pending Stored.Unchanged u h f = absurd (u refl)
stored-yes RowState.Success Stored.Unchanged u h f = absurd (u refl)
stored-yes RowState.Failed Stored.Unchanged u h f = absurd (u refl)
stored-yes RowState.NeedsReboot Stored.Unchanged u h f = absurd (u refl)
stored-yes _ _ u h f = cc

-- ---- a log and the events behind it

legal-before : (c : Campaign) (events base : List Event) → IsLegal c (events ++ base) → IsLegal c base
legal-before c [] base l = l
legal-before c (event ∷ events) base l = legal-before c events base l.0

-- ---- one play more

-- the same target, but for what is alike
record Beside (o : Option Target) (t : Target) : Type 0 where
  view : DeviceView
  target_is : o ≡ Some (record { place = t.place; view = view; chosen = t.chosen })
  like : Like view t.view

beside : (o p : Option Target) → SameTarget o p → (t : Target) → p ≡ Some t → Beside o t
beside _ _ SameTarget.Neither t e = cc
beside _ _ (SameTarget.Both at a b chosen m) t e = subst (Beside (Some (record { place = at; view = a; chosen = chosen }))) (same_Some _ _ e) (record { view = a; target_is = refl; like = m })

-- what a row says of its target
row-like : (entry time client : ℕ) (request : Request) (state : RowState) (a : DeviceView) (t : Target) → Like a t.view
    → new_row entry time client request state (record { place = t.place; view = a; chosen = t.chosen }) ≡ new_row entry time client request state t
row-like entry time client request state a t m = ap (λ (sheet : Sheet). told sheet (version_of a)) m.sheet ∙ ap (λ (shown : Option (List ℕ)). told t.view.sheet shown) m.version
  where
    told : Sheet → Option (List ℕ) → Row
    told sheet shown = record {
      entry = entry;
      tag = request.tag;
      client = client;
      device = sheet.device;
      component = t.chosen.component.id;
      version_old = unwrap_or shown [];
      version_new = t.chosen.release.version;
      digest = t.chosen.release.digest;
      flags = flags_number request.flags;
      state = state;
      reason = 0;
      time_added = time;
      time_changed = time;
      duration = sheet.duration;
      protocol = sheet.protocol;
      retry_of = request.retry_of;
    }

module _ (s : Scene) (first : List Seen) (plans : List BootPlan) (number : ℕ) (step : PlanStep) (chosen : Chosen) (p q : List Event) (same : Same s p q) (quiet : IsQuiet s q) (there : release_at s step.release ≡ Some chosen)
    (good : is_good_with s number step q chosen ≡ true) where
  abbrev c : Campaign
  c = campaign_on s.basis first plans

  abbrev asks : Request
  asks = request_of s number step chosen

  -- ---- the planned play

  tested : Tests s number step chosen q
  tested = tests s number step chosen q good

  f : Found s number step chosen q
  f = found s number step chosen q there tested.asked_so

  abbrev b : Board
  b = (board s number step chosen q quiet f).0

  on-device : IsOf s step.device b
  on-device = (board s number step chosen q quiet f).1

  has-b : slice_get s.basis.facts.sheets b.number ≡ Some b.sheet
  has-b = All-find (HasSheet s.basis.facts) (λ (x : Board). bytes_eq x.sheet.device step.device) (devices s.basis.facts) b (has-sheets s.basis.facts) on-device

  fresh-q : row_of (rows s.basis q) (next_entry s.basis q) ≡ None
  fresh-q = let k = kept s number step chosen q quiet f in row_of-past 1 (rows s.basis q) (next_entry s.basis q) k.rows_kept.valid.entries (omega arith)

  whole-q : Steps s (next_entry s.basis q) (taken s number step chosen (asked s number step chosen q)) (done s number step chosen q)
  whole-q = with-steps s step chosen (next_entry s.basis q) all_ops (taken s number step chosen (asked s number step chosen q))

  abbrev fetched-q : FetchNote
  fetched-q = FetchNote.Whole chosen.release.digest chosen.release.size step.raw

  abbrev last-q : List Event
  last-q = whole-q.steps ++ taken s number step chosen (asked s number step chosen q)

  abbrev row-q : Row
  row-q = new_row (next_entry s.basis q) (time_of q) s.client asks RowState.Begun f.t

  abbrev ended-q : List Event
  ended-q = Event.Finish s.client (next_entry s.basis q) (end_of s number step chosen q) Stored.Yes ∷ last-q

  ended-q-is : installed_with s number step chosen q ≡ ended-q
  ended-q-is = ap (λ (events : List Event). Event.Finish s.client (next_entry s.basis q) (end_of s number step chosen q) Stored.Yes ∷ events) whole-q.whole_is

  device-q : f.t.view.sheet.device ≡ step.device
  device-q = device-is s number step chosen q quiet f

  made-q : Made s q ended-q b row-q (next_entry s.basis q) (end_of s number step chosen q)
  made-q =
      made s number step chosen q same.hold_other same.live_other fresh-q f.t f.target_is b on-device device-q (blocks_of chosen.release.size) step.release fetched-q whole-q.steps whole-q.are
      (end_of s number step chosen q)

  -- what its board shows at the end, in a raw number that is kept where it needs a boot
  record Ends : Type 0 where
    raw : ℕ
    mode : Mode
    shows : seen s.basis last-q b.number ≡ Seen.Home raw mode
    keeps : has_flag DeviceFlag.NeedsReboot (flags_of f.t.view) ≡ true → version_of f.t.view ≡ Some (render b.sheet.format raw)

  ends-q : Ends
  ends-q =
      let g = goes-whole s number step chosen q quiet f tested.claimed_so in
      let seen-last : seen s.basis last-q b.number ≡ (cleaned s number step chosen q quiet f).seen =
      ap (λ (past : List Event). seen s.basis past b.number) (sym whole-q.whole_is) ∙ g.seen_is in
      record {
        raw = g.raw;
        mode = g.mode;
        shows = seen-last ∙ g.home;
        keeps = λ waits. keeps-version g.raw g.mode g.home waits;
      }
    where
      raw-of : Seen → ℕ
      raw-of (Seen.Home raw mode) = raw
      raw-of Seen.Gone = 0
      raw-of Seen.Stranger = 0

      keeps-version : (raw : ℕ) (mode : Mode) → (cleaned s number step chosen q quiet f).seen ≡ Seen.Home raw mode → has_flag DeviceFlag.NeedsReboot (flags_of f.t.view) ≡ true → version_of f.t.view ≡ Some (render b.sheet.format raw)
      keeps-version raw mode at waits =
          let home = home-first s number step chosen q quiet f in
          let k : Keeps (cleaned s number step chosen q quiet f) home.0 = keeps-whole step.raw (course_first s number step chosen q quiet f) home.0 (record { waits = waits; mode = home.1; shows = home.2 }) in
          let one : home.0 ≡ raw = ap raw-of (sym k.shows ∙ at) in
          ap (version_shown f.t.view.sheet) home.2
          ∙ ap (λ (n : ℕ). Some (render f.t.view.sheet.format n)) one
          ∙ ap (λ (v : DeviceView). Some (render v.sheet.format raw)) (view-is s number step chosen q quiet f)

  abbrev text : List ℕ
  text = render b.sheet.format ends-q.raw

  text-q : version_shown b.sheet (seen s.basis last-q b.number) ≡ Some text
  text-q = ap (version_shown b.sheet) ends-q.shows

  -- a device that needs a boot doesn't show the new version yet
  not-yet : has_flag DeviceFlag.NeedsReboot (flags_of f.t.view) ≡ true → same_version text f.t.chosen.release.version ≡ false
  not-yet waits =
      same_version-back text f.t.chosen.release.version
      ∙ ap (same_version f.t.chosen.release.version) (sym (ap (λ (o : Option (List ℕ)). unwrap_or o []) (ends-q.keeps waits)))
      ∙ refused (same_version f.t.chosen.release.version (shown_by f.t)) (let none = none-refuses (case_of s.basis q s.client asks Stage.Ask) f.t f.free in none.is_installed)
    where
      refused : (x : Bool) → where_so (x && not false) Refusal.SameVersion ≡ None → x ≡ false
      refused true e = cc
      refused false e = refl

  closes-q : Closes s number step chosen q same.hold_other same.live_other fresh-q f.t f.target_is b on-device device-q (blocks_of chosen.release.size) step.release fetched-q whole-q.steps whole-q.are
  closes-q = closes s number step chosen q same.hold_other same.live_other fresh-q f.t f.target_is b on-device device-q (blocks_of chosen.release.size) step.release fetched-q whole-q.steps whole-q.are

  end-q : end_of s number step chosen q ≡ settled (has_flag DeviceFlag.NeedsReboot (flags_of f.t.view)) (ended_well Op.Write closes-q.t_last.steps) (same_version text f.t.chosen.release.version)
  end-q =
      closing-q
      ∙ closes-settled closes-q.t_last row-q (view_in (live last-q) (known s.basis last-q) b) text text-q (sym (ap is_ended closing-q) ∙ tested.ended_so)
      ∙ ap (λ (flags : List Bool). settled (has_flag DeviceFlag.NeedsReboot flags) (ended_well Op.Write closes-q.t_last.steps) (same_version text f.t.chosen.release.version)) closes-q.flags_are
    where
      closing-q : end_of s number step chosen q ≡ closing_of closes-q.t_last row-q (view_in (live last-q) (known s.basis last-q) b)
      closing-q =
          ap (λ (past : List Event). unwrap_or (closing s.basis past (next_entry s.basis q)) RowState.Begun) whole-q.whole_is
          ∙ ap (λ (o : Option RowState). unwrap_or o RowState.Begun) closes-q.closing_is

  -- ---- the play

  module _ (blocks : ℕ) (release : ReleaseRef) (fetched : FetchNote) (state : RowState) (steps : List Event) (ended-well : is_ended state ≡ true) where
    -- the log with the play, for an entry, and as its finish was stored
    abbrev pub play : ℕ → Stored → List Event
    play entry stored =
        Event.Finish s.client entry state stored ∷ steps ++ Event.Claim s.client asks fetched (ClaimAnswer.Entry entry) ∷ Event.Ask s.client asks None (AskAnswer.Hold blocks release) ∷ p

    entry-is : (entry : ℕ) (stored : Stored) → IsLegal c (play entry stored) → entry ≡ next_entry s.basis p
    entry-is entry stored legal =
        let claimed = legal-before c steps (Event.Claim s.client asks fetched (ClaimAnswer.Entry entry) ∷ Event.Ask s.client asks None (AskAnswer.Hold blocks release) ∷ p) legal.0 in
        let answered = claimed.2.1.answer_is in
        let so =
        accepted-claim fetched (target s.basis.facts (views s.basis p) asks) (next_entry s.basis p)
        (verdict s.basis (Event.Ask s.client asks None (AskAnswer.Hold blocks release) ∷ p) s.client asks (Stage.Claim claimed.2.0.release)) entry answered in
        so.4

    stored-is : (entry : ℕ) (stored : Stored) → IsLegal c (play entry stored) → off (play entry stored) ≡ false → stored ≡ Stored.Yes
    stored-is entry stored legal on =
        let finish = legal.2.2 in
        let calm = or_parts (is_fault stored) _ on in
        stored-yes legal.2.1 stored finish.unchanged (ap is_ended (sym finish.state_is) ∙ ended-well) calm.0

    module _ (are : AreSteps s.client (next_entry s.basis p) steps) (legal : IsLegal c (play (next_entry s.basis p) Stored.Yes))
        (alike : shows_alike (view_of s step.device (play (next_entry s.basis p) Stored.Yes)) (view_of s step.device (installed_with s number step chosen q)) ≡ true) where
      abbrev now : List Event
      now = play (next_entry s.basis p) Stored.Yes

      entry-same : next_entry s.basis p ≡ next_entry s.basis q
      entry-same = ap (λ (rs : List Row). length rs + 1) same.rows_are

      fresh-p : row_of (rows s.basis p) (next_entry s.basis p) ≡ None
      fresh-p = ap (λ (rs : List Row). row_of rs (next_entry s.basis p)) same.rows_are ∙ ap (row_of (rows s.basis q)) entry-same ∙ fresh-q

      target-p : Beside (target s.basis.facts (views s.basis p) asks) f.t
      target-p =
          beside (target s.basis.facts (views s.basis p) asks) (target s.basis.facts (views s.basis q) asks) (target-like s.basis.facts (views s.basis p) (views s.basis q) (views-like s p q same) asks) f.t f.target_is

      abbrev t-p : Target
      t-p = record { place = f.t.place; view = target-p.view; chosen = f.t.chosen }

      device-p : target-p.view.sheet.device ≡ step.device
      device-p = let l = target-p.like in ap (λ (sheet : Sheet). sheet.device) l.sheet ∙ device-q

      abbrev row-p : Row
      row-p = new_row (next_entry s.basis p) (time_of p) s.client asks RowState.Begun t-p

      abbrev last-p : List Event
      last-p = steps ++ Event.Claim s.client asks fetched (ClaimAnswer.Entry (next_entry s.basis p)) ∷ Event.Ask s.client asks None (AskAnswer.Hold blocks release) ∷ p

      made-p : Made s p now b row-p (next_entry s.basis p) state
      made-p = made s number step chosen p same.hold_one same.live_one fresh-p t-p target-p.target_is b on-device device-p blocks release fetched steps are state

      closes-p : Closes s number step chosen p same.hold_one same.live_one fresh-p t-p target-p.target_is b on-device device-p blocks release fetched steps are
      closes-p = closes s number step chosen p same.hold_one same.live_one fresh-p t-p target-p.target_is b on-device device-p blocks release fetched steps are

      -- what its board shows is what is planned
      board-like : LikeSeen b.sheet (seen s.basis last-p b.number) (seen s.basis last-q b.number)
      board-like =
          shown-like b.sheet (seen s.basis last-p b.number) (seen s.basis last-q b.number) (ap is_home ends-q.shows)
          (sym
          (ap (λ (o : Option DeviceView). shows_alike o (view_of s step.device (installed_with s number step chosen q))) (view-now s step.device b now on-device)
          ∙ ap (shows_alike (Some (view_in (live now) (known s.basis now) b)))
          (ap (view_of s step.device) ended-q-is ∙ view-now s step.device b ended-q on-device))
          ∙ alike)

      text-p : version_shown b.sheet (seen s.basis last-p b.number) ≡ Some text
      text-p = let l = board-like in l.version ∙ text-q

      -- so it ends in the planned state
      state-same : state ≡ end_of s number step chosen q
      state-same = ended-p ∙ settled-same waits (ended_well Op.Write closes-p.t_last.steps) (ended_well Op.Write closes-q.t_last.steps) (same_version text f.t.chosen.release.version)
          (sym (ap is_ended ended-p) ∙ ended-well) (sym (ap is_ended end-q) ∙ tested.ended_so) not-yet ∙ sym end-q
        where
          waits : Bool
          waits = has_flag DeviceFlag.NeedsReboot (flags_of f.t.view)

          closed : state ≡ closing_of closes-p.t_last row-p (view_in (live last-p) (known s.basis last-p) b)
          closed = let finish = legal.2.2 in finish.state_is ∙ same_Some _ _ (sym finish.closing ∙ closes-p.closing_is)

          ended-p : state ≡ settled waits (ended_well Op.Write closes-p.t_last.steps) (same_version text f.t.chosen.release.version)
          ended-p =
              closed
              ∙ closes-settled closes-p.t_last row-p (view_in (live last-p) (known s.basis last-p) b) text text-p (sym (ap is_ended closed) ∙ ended-well)
              ∙ ap (λ (flags : List Bool). settled (has_flag DeviceFlag.NeedsReboot flags) (ended_well Op.Write closes-p.t_last.steps) (same_version text f.t.chosen.release.version)) (let l = target-p.like in closes-p.flags_are ∙ l.flags)

      rows-same : rows s.basis now ≡ rows s.basis ended-q
      rows-same =
          made-p.rows_are
          ∙ ap (λ (rs : List Row). rows_with rs (time_of p) row-p (next_entry s.basis p) state) same.rows_are
          ∙ ap (λ (time : ℕ). rows_with (rows s.basis q) time row-p (next_entry s.basis p) state) same.time_is
          ∙ ap (λ (row : Row). rows_with (rows s.basis q) (time_of q) row (next_entry s.basis p) state) row-same
          ∙ ap (λ (entry : ℕ). rows_with (rows s.basis q) (time_of q) row-q entry state) entry-same
          ∙ ap (rows_with (rows s.basis q) (time_of q) row-q (next_entry s.basis q)) state-same
          ∙ sym made-q.rows_are
        where
          row-same : row-p ≡ row-q
          row-same =
              ap (λ (entry : ℕ). new_row entry (time_of p) s.client asks RowState.Begun t-p) entry-same
              ∙ ap (λ (time : ℕ). new_row (next_entry s.basis q) time s.client asks RowState.Begun t-p) same.time_is
              ∙ row-like (next_entry s.basis q) (time_of q) s.client asks RowState.Begun target-p.view f.t target-p.like

      all-shown : (n : ℕ) (sheet : Sheet) → slice_get s.basis.facts.sheets n ≡ Some sheet → LikeSeen sheet (seen s.basis now n) (seen s.basis ended-q n)
      all-shown n sheet there =
          by_test (b.number == n) _
          (λ t.
          let at : b.number ≡ n = eqb-true b.number n t in
          let one : b.sheet ≡ sheet = same_Some _ _ (sym has-b ∙ ap (slice_get s.basis.facts.sheets) at ∙ there) in
          subst (λ (m : ℕ). LikeSeen sheet (seen s.basis now m) (seen s.basis ended-q m)) at
          (subst (λ (x : Sheet). LikeSeen x (seen s.basis now b.number) (seen s.basis ended-q b.number)) one board-like))
          (λ t.
          subst (λ (x : Seen). LikeSeen sheet (seen s.basis now n) x) (sym (made-q.others n t))
          (subst (λ (x : Seen). LikeSeen sheet x (seen s.basis q n)) (sym (made-p.others n t)) (same.shown n sheet there)))

      beside-planned : Same s now ended-q
      beside-planned = record {
        rows_are = rows-same;
        time_is = made-p.time_is ∙ same.time_is ∙ sym made-q.time_is;
        live_one = made-p.none_live;
        live_other = made-q.none_live;
        hold_one = made-p.no_hold;
        hold_other = made-q.no_hold;
        shown = all-shown;
      }

      pub goes-beside : Same s now (installed_with s number step chosen q)
      goes-beside = subst (Same s now) (sym ended-q-is) beside-planned

-- So a play of a good step leads on beside the planned one.
pub played-same : (s : Scene) (first : List Seen) (plans : List BootPlan) (number : ℕ) (step : PlanStep) (chosen : Chosen) (p q next : List Event) → Same s p q → IsQuiet s q → release_at s step.release ≡ Some chosen
    → is_good_with s number step q chosen ≡ true → IsLegal (campaign_on s.basis first plans) next → off next ≡ false → IsPlayed s number step chosen p next
    → shows_alike (view_of s step.device next) (view_of s step.device (installed_with s number step chosen q)) ≡ true → Same s next (installed_with s number step chosen q)
played-same s first plans number step chosen p q next same quiet there good legal on played alike =
    subst (λ (past : List Event). Same s past inst) (sym now-is)
    (goes-beside s first plans number step chosen p q same quiet there good played.blocks played.release played.fetched played.state played.steps played.ended are-so
    (subst (IsLegal c) now-is legal) (subst (λ (past : List Event). shows_alike (view_of s step.device past) (view_of s step.device inst) ≡ true) now-is alike))
  where
    c : Campaign
    c = campaign_on s.basis first plans

    inst : List Event
    inst = installed_with s number step chosen q

    told : ℕ → Stored → List Event
    told entry stored = play s first plans number step chosen p q same quiet there good played.blocks played.release played.fetched played.state played.steps played.ended entry stored

    legal-told : IsLegal c (told played.entry played.stored)
    legal-told = subst (IsLegal c) played.goes_on legal

    entry : played.entry ≡ next_entry s.basis p
    entry = entry-is s first plans number step chosen p q same quiet there good played.blocks played.release played.fetched played.state played.steps played.ended played.entry played.stored legal-told

    stored : played.stored ≡ Stored.Yes
    stored =
        stored-is s first plans number step chosen p q same quiet there good played.blocks played.release played.fetched played.state played.steps played.ended played.entry played.stored legal-told
        (subst (λ (past : List Event). off past ≡ false) played.goes_on on)

    now-is : next ≡ told (next_entry s.basis p) Stored.Yes
    now-is = played.goes_on ∙ ap (λ (n : ℕ). told n played.stored) entry ∙ ap (told (next_entry s.basis p)) stored

    are-so : AreSteps s.client (next_entry s.basis p) played.steps
    are-so = subst (λ (n : ℕ). AreSteps s.client n played.steps) entry (each-step s.client played.entry played.steps played.are_steps)

-- ---- all plays

-- What was before a play is legal too, and wasn't off.
record Before (c : Campaign) (past : List Event) : Type 0 where
  legal : IsLegal c past
  on : off past ≡ false

before-play : (s : Scene) (c : Campaign) (number : ℕ) (step : PlanStep) (chosen : Chosen) (past next : List Event) → IsPlayed s number step chosen past next → Before c next → Before c past
before-play s c number step chosen past next played b =
    let steps = each-step s.client played.entry played.steps played.are_steps in
    let l = left s played.entry played.steps begun steps in
    let legal = subst (IsLegal c) played.goes_on b.legal in
    let claimed = legal-before c played.steps begun legal.0 in
    let finish : (is_fault played.stored || off (played.steps ++ begun)) ≡ false = subst (λ (events : List Event). off events ≡ false) played.goes_on b.on in
    let calm = or_parts (is_fault played.stored) (off (played.steps ++ begun)) finish in
    record { legal = claimed.0.0; on = sym l.off_is ∙ calm.1 }
  where
    begun : List Event
    begun =
        Event.Claim s.client (request_of s number step chosen) played.fetched (ClaimAnswer.Entry played.entry)
        ∷ Event.Ask s.client (request_of s number step chosen) None (AskAnswer.Hold played.blocks played.release) ∷ past

before-plays : (s : Scene) (c : Campaign) (number : ℕ) (steps : List PlanStep) (planned past now : List Event) → IsFollowed s number steps planned past now → Before c now → Before c past
before-plays s c _ _ _ _ _ (IsFollowed.Stays number planned past) b = b
before-plays s c _ _ _ _ _ (IsFollowed.GoesOn number step steps chosen planned past next now there played alike more) b =
    before-play s c number step chosen past next played (before-plays s c (number + 1) steps (installed s number step planned) next now more b)

-- the plan behind some of its steps
record Behind (s : Scene) (number : ℕ) (rest : List PlanStep) (planned now : List Event) : Type 0 where
  same : Same s now planned
  quiet : IsQuiet s planned
  good : first_bad s number rest planned ≡ None

first-good : (s : Scene) (number : ℕ) (step : PlanStep) (rest : List PlanStep) (planned : List Event) → first_bad s number (step ∷ rest) planned ≡ None
    → (is_good s number step planned ≡ true) × (first_bad s (number + 1) rest (installed s number step planned) ≡ None)
unfolding first_bad
first-good s number step rest planned h = of (is_good s number step planned) refl h
  where
    of : (b : Bool) → is_good s number step planned ≡ b → (if b then first_bad s (number + 1) rest (installed s number step planned) else Some number) ≡ None
        → (is_good s number step planned ≡ true) × (first_bad s (number + 1) rest (installed s number step planned) ≡ None)
    of true e h = (e, h)
    of false e h = cc

follow : (s : Scene) (first : List Seen) (plans : List BootPlan) (number : ℕ) (steps rest : List PlanStep) (planned past now : List Event) → IsFollowed s number steps planned past now
    → Before (campaign_on s.basis first plans) now → Behind s number (steps ++ rest) planned past → Behind s (number + length steps) rest (after s number steps planned) now
unfolding after
follow s first plans _ _ rest _ _ _ (IsFollowed.Stays number planned past) b h =
    record { same = h.same; quiet = h.quiet; good = subst (λ (n : ℕ). first_bad s n rest planned ≡ None) (omega arith) h.good }
follow s first plans _ _ rest _ _ _ (IsFollowed.GoesOn number step steps chosen planned past next now there played alike more) b h =
    subst (λ (n : ℕ). Behind s n rest (after s (number + 1) steps (installed s number step planned)) now) (omega arith)
    (follow s first plans (number + 1) steps rest (installed s number step planned) next now more b on)
  where
    c : Campaign
    c = campaign_on s.basis first plans

    parts : (is_good s number step planned ≡ true) × (first_bad s (number + 1) (steps ++ rest) (installed s number step planned) ≡ None)
    parts = first-good s number step (steps ++ rest) planned h.good

    g : Good s number step planned
    g = good-step s number step planned parts.0

    one : g.chosen ≡ chosen
    one = same_Some _ _ (sym g.there ∙ there)

    good : is_good_with s number step planned chosen ≡ true
    good = subst (λ (x : Chosen). is_good_with s number step planned x ≡ true) one g.good

    inst-is : installed s number step planned ≡ installed_with s number step chosen planned
    inst-is = g.installed_is ∙ ap (λ (x : Chosen). installed_with s number step x planned) one

    at-next : Before c next
    at-next = before-plays s c (number + 1) steps (installed s number step planned) next now more b

    on : Behind s (number + 1) (steps ++ rest) (installed s number step planned) next
    on = record {
      same =
          subst (Same s next) (sym inst-is)
          (played-same s first plans number step chosen past planned next h.same h.quiet there good at-next.legal at-next.on played
          (subst (λ (events : List Event). shows_alike (view_of s step.device next) (view_of s step.device events) ≡ true) inst-is alike));
      quiet = quiet-on s number step planned h.quiet parts.0;
      good = parts.1;
    }

-- The next step of a good plan is accepted after every legal log that goes on so.
pub next_accepted : (s : Scene) (done : List PlanStep) (step : PlanStep) (more : List PlanStep) (past now : List Event) → IsAcceptedNext s done step more past now
next_accepted s steps step more past now first plans chosen legal quiet good followed on below there =
    let behind = follow s first plans 1 steps (step ∷ more) past past now followed (record { legal = legal; on = on }) at-first in
    let parts = first-good s (1 + length steps) step more (after s 1 steps past) behind.good in
    let g = good-step s (1 + length steps) step (after s 1 steps past) parts.0 in
    let one : g.chosen ≡ chosen = same_Some _ _ (sym g.there ∙ there) in
    let all = tests s (1 + length steps) step g.chosen (after s 1 steps past) g.good in
    ap (accepts step.release) (verdict-like s now (after s 1 steps past) behind.same s.client (request_of s (length steps + 1) step chosen) Stage.Ask)
    ∙ ap (λ (n : ℕ). accepts step.release (verdict s.basis (after s 1 steps past) s.client (request_of s n step chosen) Stage.Ask)) (omega arith)
    ∙ ap (λ (x : Chosen). accepts step.release (verdict s.basis (after s 1 steps past) s.client (request_of s (1 + length steps) step x) Stage.Ask)) (sym one)
    ∙ all.asked_so
  where
    at-first : Behind s 1 (steps ++ step ∷ more) past past
    at-first = record {
      same = record {
        rows_are = refl;
        time_is = refl;
        live_one = quiet.none_live;
        live_other = quiet.none_live;
        hold_one = quiet.no_hold;
        hold_other = quiet.no_hold;
        shown = λ n sheet there. same-shown sheet (seen s.basis past n);
      };
      quiet = quiet;
      good = good;
    }
