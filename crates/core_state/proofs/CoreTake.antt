-- What is kept, after each part of it took an event.
use Rattle.std.proofs.Common.{◌≡◌, ℕ, List, [], ◌∷◌, ◌++◌, map, ap, sym, ◌∙◌, subst, ◌<◌, ◌≤◌, ◌+◌, ◌-◌, ◌^◌, arith, length, min}
use Rattle.std.proofs.lemmas.List.{length-map}
use Rattle.std.specs.Prelude.{Option, true, ◌==◌, All, vec_len, vec_capacity}
use Rattle.std.specs.List.{list_any}
use Rattle.fw_facts.specs.declared.view.DeviceView.{DeviceView}
use Rattle.history_keeper.specs.declared.change.Change.{Change}
use Rattle.history_keeper.specs.declared.row.Row.{Row}
use Rattle.core_state.proofs.CoreKept.{NextParts}
use Rattle.core_state.proofs.CoreViews.{length-told}
use Rattle.core_state.specs.Core.{Core, IsCore, core_of, spare}
use Rattle.core_state.specs.CoreAfter.{IsAfter, Takes}
use Rattle.core_state.specs.CoreSteps.{HasPlace, asks_row, change_on, changed_if, doubt_at, made_at, tells_on, traces_on}
use Rattle.core_state.specs.CoreViews.{claimed, told_on}
use Rattle.update_log.specs.Holding.{holds_after, live_after, open_after}
use Rattle.update_log.specs.Pasts.{boots_after, counted_after, finished_after, limit_after, off_after, time_after}
use Rattle.update_log.specs.declared.event.Event.{Event}
use Rattle.update_log.specs.declared.facts.Facts.{Facts}
use Rattle.update_log.specs.declared.live.Held.{Held}
use Rattle.update_log.specs.declared.live.LiveEntry.{LiveEntry}
use Rattle.core_state.specs.declared.state.CoreState.TheInside.{Inside}

least-both : (a b : ℕ) → 0 < min a b → (0 < a) × (0 < b)
least-both a b h = (omega arith, omega arith)

least-left : (a b c d : ℕ) → a ≤ c + 1 → b ≤ d + 1 → min a b ≤ min c d + 1
least-left a b c d h k = omega arith

has-room : (len cap : ℕ) → 0 < cap - len → len < cap
has-room len cap h = omega arith

room-one : (len cap len' cap' : ℕ) → cap' ≡ cap → len' ≤ len + 1 → cap - len ≤ (cap' - len') + 1
room-one len cap len' cap' e h = omega arith

-- The change that the event asks for, over what is kept.
abbrev pub asked_of : Facts → Inside → Event → Option Change
asked_of facts s event = change_on facts s.clock.time s.devices s.rows.rows event

-- The rows and the views after it, the views with the claims from before.
abbrev pub rows_of : Facts → Inside → Event → List Row
rows_of facts s event = changed_if (made_at event (asked_of facts s event) s.doubt) s.rows.rows

abbrev pub told_of : Inside → Event → List DeviceView
told_of s event = told_on (tells_on s.boards.items s.devices s.rows.rows event) s.boards.items s.devices

-- Each list has room for one more.
pub record Rooms (s : Inside) : Type 0 where
  pub log : vec_len s.log < vec_capacity s.log
  pub live : vec_len s.live < vec_capacity s.live
  pub traces : vec_len s.traces < vec_capacity s.traces
  pub holds : vec_len s.holds < vec_capacity s.holds
  pub opened : vec_len s.open < vec_capacity s.open
  pub finished : vec_len s.finished < vec_capacity s.finished

pub rooms : (s : Inside) → 0 < spare s → Rooms s
rooms s h =
    let a = least-both _ _ h in
    let b = least-both _ _ a.1 in
    let d = least-both _ _ b.1 in
    let e = least-both _ _ d.1 in
    let f = least-both _ _ e.1 in
    record {
      log = has-room _ _ a.0;
      live = has-room _ _ b.0;
      traces = has-room _ _ d.0;
      holds = has-room _ _ e.0;
      opened = has-room _ _ f.0;
      finished = has-room _ _ f.1;
    }

-- What the parts require, over the fields.
pub record TakesInside (facts : Facts) (s : Inside) (event : Event) : Type 0 where
  pub rooms : Rooms s
  pub rows : length (changed_if (made_at event (asked_of facts s event) s.doubt) s.rows.rows) ≤ length s.rows.rows + s.rows.room
  pub few : asks_row event ≡ true → length s.rows.rows + 1 < 2 ^ 32
  pub places : All (HasPlace event) s.traces.items
  pub entries : map (λ t. t.entry) (traces_on facts s.devices s.holds.items event s.traces.items) ≡ map (λ l. l.entry) (live_after event s.live.items)
  pub claims : map (claimed (rows_of facts s event) s.live.items) (told_of s event) ≡ told_of s event
  pub boards : length s.boards.items ≤ length s.devices
  pub boots : s.clock.boots + 1 < 2 ^ 64
  pub counted : s.clock.counted + 1 < 2 ^ 64

pub takes-inside : (facts : Facts) (s : Inside) (core : Core) (event : Event) → IsCore s → core_of s ≡ core → Takes facts core event → TakesInside facts s event
takes-inside facts s core event k is takes =
    let t : Takes facts (core_of s) event = subst (λ (c : Core). Takes facts c event) (sym is) takes in
    let r : Rooms s = rooms s t.room in
    record {
      rooms = r;
      rows = rw k.time t.row_room;
      few = t.few;
      places = t.places;
      entries = rw (k.holds, k.live) t.entries;
      claims = rw (k.time, k.live) t.claims;
      boards = (let e = k.boards in omega (arith, e));
      boots = (let e = k.few_boots in let room = r.log in let ok = s.log.ok in let small = s.log.small in omega (arith, e, room, ok, small));
      counted = (let e = k.few_counted in let room = r.log in let ok = s.log.ok in let small = s.log.small in omega (arith, e, room, ok, small));
    }

-- Each part after the event.
pub record NextInside (facts : Facts) (event : Event) (s : Inside) (n : Inside) : Type 0 where
  pub log : n.log.items ≡ s.log.items ++ event ∷ []
  pub live : n.live.items ≡ live_after event s.live.items
  pub traces : n.traces.items ≡ traces_on facts s.devices s.holds.items event s.traces.items
  pub holds : n.holds.items ≡ holds_after event s.holds.items
  pub opened : n.open.items ≡ open_after event s.open.items
  pub finished : (entry : ℕ) → list_any (λ e. e == entry) n.finished.items ≡ finished_after entry event (list_any (λ e. e == entry) s.finished.items)
  pub off : n.clock.off ≡ off_after event s.clock.off
  pub boots : n.clock.boots ≡ boots_after event s.clock.boots
  pub time : n.clock.time ≡ time_after event s.clock.time
  pub limit : n.clock.limit ≡ limit_after event s.clock.limit
  pub counted : n.clock.counted ≡ counted_after event s.clock.counted
  pub rows : n.rows.rows ≡ changed_if (made_at event (asked_of facts s event) s.doubt) s.rows.rows
  pub doubt : n.doubt ≡ doubt_at event (asked_of facts s event) s.doubt
  pub devices : n.devices ≡ map (claimed n.rows.rows n.live.items) (told_on (tells_on s.boards.items s.devices s.rows.rows event) s.boards.items s.devices)
  pub boards : n.boards.items ≡ s.boards.items

-- No list has less room than before by more than one, and the rows' room is what they left.
pub record RoomsInside (s : Inside) (n : Inside) : Type 0 where
  pub log : vec_capacity n.log ≡ vec_capacity s.log
  pub log_len : vec_len n.log ≤ vec_len s.log + 1
  pub live : vec_capacity n.live ≡ vec_capacity s.live
  pub live_len : vec_len n.live ≤ vec_len s.live + 1
  pub traces : vec_capacity n.traces ≡ vec_capacity s.traces
  pub traces_len : vec_len n.traces ≤ vec_len s.traces + 1
  pub holds : vec_capacity n.holds ≡ vec_capacity s.holds
  pub holds_len : vec_len n.holds ≤ vec_len s.holds + 1
  pub opened : vec_capacity n.open ≡ vec_capacity s.open
  pub opened_len : vec_len n.open ≤ vec_len s.open + 1
  pub finished : vec_capacity n.finished ≡ vec_capacity s.finished
  pub finished_len : vec_len n.finished ≤ vec_len s.finished + 1

pub room-left : (s n : Inside) (core : Core) → core_of s ≡ core → RoomsInside s n → core.room ≤ spare n + 1
room-left s n core is r =
    let h : spare s ≤ spare n + 1 =
    least-left _ _ _ _ (room-one _ _ _ _ r.log r.log_len)
    (least-left _ _ _ _ (room-one _ _ _ _ r.live r.live_len)
    (least-left _ _ _ _ (room-one _ _ _ _ r.traces r.traces_len)
    (least-left _ _ _ _ (room-one _ _ _ _ r.holds r.holds_len)
    (least-left _ _ _ _ (room-one _ _ _ _ r.opened r.opened_len) (room-one _ _ _ _ r.finished r.finished_len))))) in
    subst (λ (c : Core). c.room ≤ spare n + 1) is h

pub row-room-left : (s n : Inside) (core : Core) → core_of s ≡ core → n.rows.room + length n.rows.rows ≡ s.rows.room + length s.rows.rows
    → n.rows.room + length n.rows.rows ≡ core.row_room + length core.rows
row-room-left s n core is e = subst (λ (c : Core). n.rows.room + length n.rows.rows ≡ c.row_room + length c.rows) is e

pub next-parts : (facts : Facts) (event : Event) (s n : Inside) → TakesInside facts s event → NextInside facts event s n → NextParts event s n
next-parts facts event s n t a =
    record {
      log = a.log;
      live = a.live;
      holds = a.holds;
      opened = a.opened;
      finished = a.finished;
      off = a.off;
      boots = a.boots;
      time = a.time;
      limit = a.limit;
      counted = a.counted;
      devices = ap length a.devices ∙ length-map (told_on (tells_on s.boards.items s.devices s.rows.rows event) s.boards.items s.devices) (claimed n.rows.rows n.live.items) ∙ length-told (tells_on s.boards.items s.devices s.rows.rows event) s.boards.items s.devices;
      boards = a.boards;
      entries = ap (λ ts. map (λ t. t.entry) ts) a.traces ∙ t.entries ∙ sym (ap (λ ls. map (λ l. l.entry) ls) a.live);
    }

pub after-inside : (facts : Facts) (event : Event) (s n : Inside) (core : Core) → IsCore s → core_of s ≡ core → NextInside facts event s n → IsAfter facts event core (core_of n)
after-inside facts event s n core k is a =
    subst (λ (c : Core). IsAfter facts event c (core_of n)) is
    (record {
      log = a.log;
      rows = rw (← k.time) a.rows;
      views = a.devices ∙ ap (λ (ls : List LiveEntry). map (claimed n.rows.rows ls) (told_on (tells_on s.boards.items s.devices s.rows.rows event) s.boards.items s.devices)) (a.live ∙ ap (λ (ls : List LiveEntry). live_after event ls) k.live);
      boards = a.boards;
      traces = a.traces ∙ ap (λ (hs : List Held). traces_on facts s.devices hs event s.traces.items) k.holds;
      doubt = rw (← k.time) a.doubt;
    })

-- What is claimed, over what is equal.
pub claims-as : (rows rows' : List Row) (entries : List LiveEntry) (views views' : List DeviceView)
    → rows ≡ rows' → views ≡ views' → map (claimed rows' entries) views' ≡ views' → map (claimed rows entries) views ≡ views
claims-as rows rows' entries views views' e g h = rw (e, g) h
