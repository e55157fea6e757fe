-- The steps of an install: what the log says of them is the course of the device alone, and each event is allowed.
use Rattle.std.proofs.Common.{◌≡◌, ℕ, ◌<◌, ◌⊎◌, ◌==◌, Bool, true, false, List, [], ◌∷◌, inl, inr, refl, sym, ap, ◌∙◌, subst, arith}
use Rattle.std.specs.Prelude.{Option, Some, None, Ok, Contains, option_map, option_and_then, unwrap_or, if◌then◌else◌}
use Rattle.std.specs.Option.{option_map_or}
use Rattle.std.proofs.lemmas.Bool.{eqb-true}
use Rattle.std.proofs.lemmas.List.{get_or-set_other}
use Rattle.std.proofs.lemmas.List.Elements.{Contains-append_right}
use Rattle.emulated_boards.specs.declared.mark.Mark.{Mark}
use Rattle.fw_facts.specs.declared.flags.DeviceFlag.{DeviceFlag}
use Rattle.fw_facts.specs.declared.seen.Mode.{Mode}
use Rattle.fw_facts.specs.declared.seen.Seen.{Seen}
use Rattle.fw_facts.specs.declared.view.DeviceView.{DeviceView}
use Rattle.fw_facts.specs.Flags.{has_flag}
use Rattle.fw_facts.specs.Views.{flags_of, is_home}
use Rattle.history_keeper.specs.declared.row.Row.{Row}
use Rattle.release_catalogue.specs.Lookup.{Chosen}
use Rattle.update_log.specs.declared.event.Event.{Event}
use Rattle.update_log.specs.declared.event.Op.{Op}
use Rattle.update_log.specs.declared.facts.BootPlan.{BootPlan}
use Rattle.update_log.specs.declared.trace.Trace.{Trace}
use Rattle.update_log.specs.Boards.{Board}
use Rattle.update_log.specs.Holding.{holds, live, live_entry, open_steps, step_open}
use Rattle.update_log.specs.Known.{board_of, row_of, rows, seen}
use Rattle.update_log.specs.Legal.{IsLegalUnlimited, ToldWhole}
use Rattle.update_log.specs.Pasts.{boots, off}
use Rattle.update_log.specs.Shows.{campaign_on, Campaign, EndShows, HasMode, HasRaw, IsPrefix, ModeAllowed, RawAllowed, digest_of, home_before, marks, raw_of as raw_taken, told, is_alike}
use Rattle.update_log.specs.Steps.{is_op, mode_of, next_op, next_step, op_number, trace, with_step}
use Rattle.update_log.proofs.Lists.{eqb-self, find-filter_none, find-push_new}
use Rattle.update_plans.specs.declared.course.Course.{Course}
use Rattle.update_plans.specs.declared.plan.PlanStep.{PlanStep}
use Rattle.update_plans.specs.Courses.{course_step, course_with, shows_next}
use Rattle.update_plans.specs.Plans.{Scene, board_after, is_next, seen_of, shown_after, waits_for_boot, with_op}
use Rattle.update_plans.proofs.Coursed.{Returns}
use Rattle.update_plans.proofs.Shown.{IsOf, board-of-entry, has-raw, home-seen, seen-ended, seen-now, that-board, view-now}

-- ---- small facts

prefix-self : {X : Type 0} (xs : List X) → IsPrefix xs xs
prefix-self [] = tt
prefix-self (x ∷ xs) = (refl, prefix-self xs)

whole-self : (op : Op) (all : List Mark) → ToldWhole op (Ok tt) all all
whole-self Op.Write all = refl
whole-self _ all = tt

op-same : (a b : Op) → is_op a b ≡ true → a ≡ b
op-same a b h = of a b (eqb-true (op_number a) (op_number b) h)
  where
    of : (a b : Op) → op_number a ≡ op_number b → a ≡ b
    of Op.Prepare Op.Prepare e = refl
    of Op.Detach Op.Detach e = refl
    of Op.Write Op.Write e = refl
    of Op.Attach Op.Attach e = refl
    of Op.Reload Op.Reload e = refl
    of Op.Cleanup Op.Cleanup e = refl
    of _ _ e = cc

next-same : (o : Option Op) (op : Op) → is_next o op ≡ true → o ≡ Some op
next-same None op h = cc
next-same (Some next) op h = ap (λ (o : Op). Some o) (op-same next op h)

-- the flag that a boot is needed is the sheet's, in either mode
pub reboots : (v : DeviceView) → has_flag DeviceFlag.NeedsReboot (flags_of v) ≡ has_flag DeviceFlag.NeedsReboot v.sheet.flags
reboots v = get_or-set_other v.sheet.flags 5 6 _ false (λ e. cc)

-- ---- what a step shows is allowed

-- the mode that is shown at the end of a step: reload and cleanup leave it, where the board is in runtime mode
abbrev pub Suits : Op → Mode → Type 0
Suits Op.Reload mode = mode ≡ Mode.Runtime
Suits Op.Cleanup mode = mode ≡ Mode.Runtime
Suits _ mode = Unit {0}

has-mode : (s : Seen) (raw : ℕ) (mode : Mode) → s ≡ Seen.Home raw mode → HasMode s mode
has-mode s raw mode e = subst (λ (x : Seen). HasMode x mode) (sym e) refl

mode-allowed : (op : Op) (entry : ℕ) (digest : List ℕ) (before : Seen) (raw : ℕ) (mode : Mode) (waits : Bool) (new raw' : ℕ) (mode' : Mode) → before ≡ Seen.Home raw mode → Suits op mode
    → board_after op waits new raw mode ≡ Seen.Home raw' mode' → ModeAllowed (marks op entry digest) before mode'
mode-allowed Op.Prepare entry digest before raw mode waits new raw' mode' b s e = has-mode before raw mode' (b ∙ ap (λ (m : Mode). Seen.Home raw m) (ap mode_of e))
mode-allowed Op.Detach entry digest before raw mode waits new raw' mode' b s e = sym (ap mode_of e)
mode-allowed Op.Write entry digest before raw mode waits new raw' mode' b s e = inl (has-mode before raw mode' (b ∙ ap (λ (m : Mode). Seen.Home raw m) (ap mode_of e)))
mode-allowed Op.Attach entry digest before raw mode waits new raw' mode' b s e = sym (ap mode_of e)
mode-allowed Op.Reload entry digest before raw mode waits new raw' mode' b s e = has-mode before raw mode' (b ∙ ap (λ (m : Mode). Seen.Home raw m) (s ∙ ap mode_of e))
mode-allowed Op.Cleanup entry digest before raw mode waits new raw' mode' b s e = has-mode before raw mode' (b ∙ ap (λ (m : Mode). Seen.Home raw m) (s ∙ ap mode_of e))

abbrev raw_in : Seen → ℕ
raw_in (Seen.Home raw mode) = raw
raw_in Seen.Gone = 0
raw_in Seen.Stranger = 0

-- the raw number is that of before, or after a whole write that of the payload
abbrev RawSo : Op → Bool → ℕ → ℕ → ℕ → Type 0
RawSo op waits new raw raw' = (raw ≡ raw') ⊎ ((op ≡ Op.Write) × (new ≡ raw'))

raw-so : (op : Op) (waits : Bool) (new raw : ℕ) (mode : Mode) (raw' : ℕ) (mode' : Mode) → board_after op waits new raw mode ≡ Seen.Home raw' mode' → RawSo op waits new raw raw'
raw-so Op.Write false new raw mode raw' mode' e = inr (refl, ap raw_in e)
raw-so _ _ new raw mode raw' mode' e = inl (ap raw_in e)

after-home : (op : Op) (waits : Bool) (new raw : ℕ) (mode : Mode) → (raw' : ℕ) × (mode' : Mode) × (board_after op waits new raw mode ≡ Seen.Home raw' mode')
after-home Op.Prepare waits new raw mode = (raw, mode, refl)
after-home Op.Detach waits new raw mode = (raw, Mode.Bootloader, refl)
after-home Op.Write waits new raw mode = (if waits then raw else new, mode, refl)
after-home _ waits new raw mode = (raw, Mode.Runtime, refl)

-- ---- the log and the course

module _ (s : Scene) (step : PlanStep) (chosen : Chosen) (first : List Seen) (plans : List BootPlan) (entry : ℕ) (b : Board) (of : IsOf s step.device b) (view : DeviceView) (needs_same : has_flag DeviceFlag.NeedsReboot view.sheet.flags ≡ has_flag DeviceFlag.NeedsReboot b.sheet.flags) where
  abbrev pub c : Campaign
  c = campaign_on s.basis first plans

  -- the log behind the claim of the entry, by its course so far
  pub record Goes (past : List Event) (course : Course) : Type 0 where
    pub legal : IsLegalUnlimited c past
    pub booted : 0 < boots past
    pub on : off past ≡ false
    pub row : Row
    pub row_is : row_of (rows s.basis past) entry ≡ Some row
    pub device_is : row.device ≡ step.device
    pub version_is : row.version_new ≡ chosen.release.version
    pub digest_is : row.digest ≡ chosen.release.digest
    pub blocks : ℕ
    pub live_is : live past ≡ record { client = s.client; entry = entry; blocks = blocks } ∷ []
    pub holds_are : holds past ≡ []
    pub closed : step_open past entry ≡ None
    pub trace_is : trace s.basis entry past ≡ Some course.trace
    pub flags_are : course.trace.flags ≡ flags_of view
    pub seen_is : seen s.basis past b.number ≡ course.seen
    pub raw_is : raw_taken entry past ≡ Some step.raw
    pub raw : ℕ
    pub mode : Mode
    pub home : course.seen ≡ Seen.Home raw mode
    pub returns : Returns course

  -- the live entry
  live-found : (past : List Event) (course : Course) (g : Goes past course) → live_entry past entry ≡ Some (record { client = s.client; entry = entry; blocks = g.blocks })
  live-found past course g = rw (g.live_is, eqb-self entry) refl

  board-found : (past : List Event) (course : Course) → Goes past course → board_of s.basis.facts (rows s.basis past) entry ≡ Some b.number
  board-found past course g = board-of-entry s step.device b (rows s.basis past) entry g.row of g.row_is g.device_is

  waits-so : (past : List Event) (course : Course) → Goes past course → waits_for_boot s step.device past ≡ has_flag DeviceFlag.NeedsReboot course.trace.flags
  waits-so past course g =
      ap (λ (o : Option DeviceView). option_map_or (λ view. has_flag DeviceFlag.NeedsReboot view.sheet.flags) o false) (view-now s step.device b past of)
      ∙ sym needs_same ∙ sym (reboots view) ∙ ap (has_flag DeviceFlag.NeedsReboot) (sym g.flags_are)

  seen-so : (past : List Event) (course : Course) → Goes past course → seen_of s step.device past ≡ course.seen
  seen-so past course g = seen-now s step.device b past of ∙ g.seen_is

  digest-so : (past : List Event) (course : Course) → Goes past course → digest_of (rows s.basis past) entry ≡ chosen.release.digest
  digest-so past course g = ap (λ (o : Option Row). unwrap_or (option_map (λ r. r.digest) o) []) g.row_is ∙ g.digest_is

  -- the event that begins the next step, and the past with it
  abbrev starts : Op → List Event → List Event
  starts op past = Event.Start s.client entry op ∷ past

  start-legal : (past : List Event) (course : Course) (op : Op) → Goes past course → is_next (next_step course.trace) op ≡ true → IsLegalUnlimited c (starts op past)
  start-legal past course op g next = (
    g.legal,
    record { booted = λ h. g.booted; on = λ h. g.on },
    (
      record { client = s.client; entry = entry; blocks = g.blocks },
      record {
        live = live-found past course g;
        client_is = refl;
        closed = g.closed;
        next = ap (option_and_then next_step) g.trace_is ∙ next-same (next_step course.trace) op next;
      },
    ),
  )

  opened : (past : List Event) (course : Course) (op : Op) → Goes past course → step_open (starts op past) entry ≡ Some (record { client = s.client; entry = entry; op = op })
  opened past course op g = find-push_new (λ x. x.entry == entry) (open_steps past) (record { client = s.client; entry = entry; op = op }) g.closed (eqb-self entry)

  -- the event that ends it, as it goes where nothing fails
  abbrev ended : Op → Course → Event
  ended op course = Event.End s.client entry op (Ok tt) (marks op entry chosen.release.digest) (shows_next step.raw course op)

  end-shows : (past : List Event) (course : Course) (op : Op) (board : ℕ) → Goes past course → Suits op (mode_of course.seen) → board ≡ b.number
      → EndShows s.basis first (starts op past) board (marks op entry chosen.release.digest) (Ok tt) (shows_next step.raw course op)
  end-shows past course op board g suits at =
      let shown : shows_next step.raw course op ≡ board_after op (has_flag DeviceFlag.NeedsReboot course.trace.flags) step.raw g.raw g.mode =
      ap (shown_after op (has_flag DeviceFlag.NeedsReboot course.trace.flags) step.raw) g.home in
      let here : seen s.basis (starts op past) board ≡ Seen.Home g.raw g.mode = ap (seen s.basis past) at ∙ g.seen_is ∙ g.home in
      let last : home_before s.basis first (starts op past) board ≡ Seen.Home g.raw g.mode = home-seen s.basis first (starts op past) board g.raw g.mode here in
      let home = after-home op (has_flag DeviceFlag.NeedsReboot course.trace.flags) step.raw g.raw g.mode in
      record {
        stays = ap (λ (x : Seen). is_alike x (shows_next step.raw course op)) here ∙ ap (is_alike (Seen.Home g.raw g.mode)) (shown ∙ home.2);
        home = λ h. ap is_home here;
        raw = λ raw mode e. raw-allowed raw mode last (raw-so op (has_flag DeviceFlag.NeedsReboot course.trace.flags) step.raw g.raw g.mode raw mode (sym shown ∙ e));
        mode = λ raw mode e. mode-allowed op entry chosen.release.digest (home_before s.basis first (starts op past) board) g.raw g.mode (has_flag DeviceFlag.NeedsReboot course.trace.flags) step.raw raw mode
            last (subst (λ (x : Seen). Suits op (mode_of x)) g.home suits) (sym shown ∙ e);
      }
    where
      raw-allowed : (raw : ℕ) (mode : Mode) → home_before s.basis first (starts op past) board ≡ Seen.Home g.raw g.mode → RawSo op (has_flag DeviceFlag.NeedsReboot course.trace.flags) step.raw g.raw raw
          → RawAllowed s.basis first (starts op past) board (marks op entry chosen.release.digest) raw
      raw-allowed raw mode last (inl same) = inl (subst (HasRaw (home_before s.basis first (starts op past) board)) same (has-raw (home_before s.basis first (starts op past) board) g.raw g.mode last))
      raw-allowed raw mode last (inr (write, same)) =
          inr (inr (
            entry,
            chosen.release.digest,
            Contains-append_right (told s.basis (starts op past) board) (marks op entry chosen.release.digest) (Mark.Ended entry chosen.release.digest)
                (subst (λ (o : Op). Contains (marks o entry chosen.release.digest) (Mark.Ended entry chosen.release.digest)) (sym write) (1, omega arith, refl)),
            g.raw_is ∙ ap (λ (n : ℕ). Some n) same,
          ))

  end-legal : (past : List Event) (course : Course) (op : Op) → Goes past course → is_next (next_step course.trace) op ≡ true → Suits op (mode_of course.seen)
      → IsLegalUnlimited c (ended op course ∷ starts op past)
  end-legal past course op g next suits = (
    start-legal past course op g next,
    record { booted = λ h. g.booted; on = λ h. g.on },
    record {
      open_is = opened past course op g;
      told_is = subst (λ (digest : List ℕ). IsPrefix (marks op entry chosen.release.digest) (marks op entry digest)) (sym (digest-so past course g)) (prefix-self (marks op entry chosen.release.digest));
      whole = subst (λ (digest : List ℕ). ToldWhole op (Ok tt) (marks op entry chosen.release.digest) (marks op entry digest)) (sym (digest-so past course g)) (whole-self op (marks op entry chosen.release.digest));
      shows = λ board t. end-shows past course op board g suits (that-board s (rows s.basis past) entry board b.number (board-found past course g) t);
    },
  )

  -- the entry's trace has the step then
  traced-on : (past : List Event) (course : Course) (op : Op) → Goes past course → trace s.basis entry (ended op course ∷ starts op past) ≡ Some (course_with step.raw course op).trace
  traced-on past course op g =
      ap (λ (t : Bool). if t then option_map (with_step (record { op = op; outcome = Ok tt; seen = shows_next step.raw course op })) (trace s.basis entry past) else trace s.basis entry past) (eqb-self entry)
      ∙ ap (option_map (with_step (record { op = op; outcome = Ok tt; seen = shows_next step.raw course op }))) g.trace_is

  -- with the step the log goes on as the course does
  goes-with : (past : List Event) (course : Course) (op : Op) → Goes past course → is_next (next_step course.trace) op ≡ true → Suits op (mode_of course.seen) → Returns (course_with step.raw course op)
      → Goes (ended op course ∷ starts op past) (course_with step.raw course op)
  goes-with past course op g next suits returns =
      let home = after-home op (has_flag DeviceFlag.NeedsReboot course.trace.flags) step.raw g.raw g.mode in
      let shown : shows_next step.raw course op ≡ board_after op (has_flag DeviceFlag.NeedsReboot course.trace.flags) step.raw g.raw g.mode =
      ap (shown_after op (has_flag DeviceFlag.NeedsReboot course.trace.flags) step.raw) g.home in
      record {
        legal = end-legal past course op g next suits;
        booted = g.booted;
        on = g.on;
        row = g.row;
        row_is = g.row_is;
        device_is = g.device_is;
        version_is = g.version_is;
        digest_is = g.digest_is;
        blocks = g.blocks;
        live_is = g.live_is;
        holds_are = g.holds_are;
        closed = find-filter_none (λ x. x.entry == entry) (open_steps (starts op past));
        trace_is = traced-on past course op g;
        flags_are = g.flags_are;
        seen_is = seen-ended s b (starts op past) s.client entry (ended op course) (shows_next step.raw course op) (board-found past course g) refl;
        raw_is = g.raw_is;
        raw = home.0;
        mode = home.1;
        home = shown ∙ home.2;
        returns = returns;
      }

  -- So the step, where it is the next one, keeps the log and the course together.
  pub goes-on : (past : List Event) (course : Course) (op : Op) → Goes past course → (is_next (next_step course.trace) op ≡ true → Suits op (mode_of course.seen)) → Returns (course_step step.raw course op)
      → Goes (with_op s step chosen entry past op) (course_step step.raw course op)
  goes-on past course op g suits returns =
      subst (λ (t : Bool). Goes (if t then shown-after (shown_after op (waits_for_boot s step.device past) step.raw (seen_of s step.device past)) else past) (course_step step.raw course op)) (sym next)
      (go (is_next (next_step course.trace) op) refl)
    where
      next : is_next (next_op s.basis past entry) op ≡ is_next (next_step course.trace) op
      next = ap (λ (o : Option Trace). is_next (option_and_then next_step o) op) g.trace_is

      shown-after : Seen → List Event
      shown-after shown = Event.End s.client entry op (Ok tt) (marks op entry chosen.release.digest) shown ∷ starts op past

      same : shows_next step.raw course op ≡ shown_after op (waits_for_boot s step.device past) step.raw (seen_of s step.device past)
      same =
          sym
          (ap (λ (waits : Bool). shown_after op waits step.raw (seen_of s step.device past)) (waits-so past course g)
          ∙ ap (shown_after op (has_flag DeviceFlag.NeedsReboot course.trace.flags) step.raw) (seen-so past course g))

      go : (taken : Bool) → is_next (next_step course.trace) op ≡ taken
          → Goes (if taken then shown-after (shown_after op (waits_for_boot s step.device past) step.raw (seen_of s step.device past)) else past) (if taken then course_with step.raw course op else course)
      go true e =
          subst (λ (shown : Seen). Goes (shown-after shown) (course_with step.raw course op)) same
          (goes-with past course op g e (suits e) (subst (λ (t : Bool). Returns (if t then course_with step.raw course op else course)) e returns))
      go false e = g
