use Rattle.std.proofs.Common.{◌≡◌, ◌≤◌, ◌+◌, ℕ, List, refl, ap, sym, ◌∙◌, subst, map, length, arith}
use Rattle.std.specs.Prelude.{Option}
use Rattle.fw_facts.specs.declared.view.DeviceView.{DeviceView}
use Rattle.history_keeper.specs.declared.change.Change.{Change}
use Rattle.core_state.proofs.CoreKept.{kept-on}
use Rattle.core_state.proofs.CoreTake.{NextInside, RoomsInside, after-inside, asked_of, claims-as, next-parts, room-left, row-room-left, takes-inside}
use Rattle.core_state.specs.CoreSteps.{changed_if, doubt_at, made_at, tells_on, traces_on}
use Rattle.core_state.specs.CoreViews.{claimed, told_on}
use Rattle.update_log.specs.declared.live.Held.{Held}
use Rattle.update_log.specs.declared.live.LiveEntry.{LiveEntry}
use Rattle.core_state.specs.declared.state.CoreState.TheInside.{Inside}
use Rattle.core_state.proofs.state.CoreState.take.Goals as goal

pub change_on-change-requires : goal.change_on-change-requires
change_on-change-requires c =
    let t = takes-inside c.args.facts.now c.self.inside c.args.self.now c.args.event c.self.invariant c.self.view_is c.requires in
    record { few = t.few }

pub traces_after-requires : goal.traces_after-requires
traces_after-requires c =
    let t = takes-inside c.args.facts.now c.self.inside c.args.self.now c.args.event c.self.invariant c.self.view_is c.requires in
    record { room = t.rooms.traces; places = t.places }

pub tell-requires : goal.tell-requires
tell-requires c =
    let t = takes-inside c.args.facts.now c.self.inside c.args.self.now c.args.event c.self.invariant c.self.view_is c.requires in
    rw c.deref-2.ensures.value t.boards

pub change_if-requires : goal.change_if-requires
change_if-requires c =
    let t = takes-inside c.args.facts.now c.self.inside c.args.self.now c.args.event c.self.invariant c.self.view_is c.requires in
    subst (λ (o : Option Change). length (changed_if o c.self.inside.rows.rows) ≤ length c.self.inside.rows.rows + c.self.inside.rows.room)
    (sym (c.made_at.ensures ∙ ap (λ (o : Option Change). made_at c.args.event o c.self.inside.doubt) c.change_on-change.ensures))
    t.rows

pub live_after-requires : goal.live_after-requires
live_after-requires c =
    let t = takes-inside c.args.facts.now c.self.inside c.args.self.now c.args.event c.self.invariant c.self.view_is c.requires in
    t.rooms.live

pub holds_after-requires : goal.holds_after-requires
holds_after-requires c =
    let t = takes-inside c.args.facts.now c.self.inside c.args.self.now c.args.event c.self.invariant c.self.view_is c.requires in
    t.rooms.holds

pub open_after-requires : goal.open_after-requires
open_after-requires c =
    let t = takes-inside c.args.facts.now c.self.inside c.args.self.now c.args.event c.self.invariant c.self.view_is c.requires in
    t.rooms.opened

pub finished_after-requires : goal.finished_after-requires
finished_after-requires c =
    let t = takes-inside c.args.facts.now c.self.inside c.args.self.now c.args.event c.self.invariant c.self.view_is c.requires in
    t.rooms.finished

pub after-self-inside-requires : goal.after-self-inside-requires
after-self-inside-requires c =
    let t = takes-inside c.args.facts.now c.self.inside c.args.self.now c.args.event c.self.invariant c.self.view_is c.requires in
    record { boots = t.boots; counted = t.counted }

pub push_reserved-requires : goal.push_reserved-requires
push_reserved-requires c =
    let t = takes-inside c.args.facts.now c.self.inside c.args.self.now c.args.event c.self.invariant c.self.view_is c.requires in
    t.rooms.log

-- The fields as they are at the end.
abbrev now_of : goal.After-push_reserved → Inside
now_of c =
    record {
      log = c.push_reserved.new.self;
      clock = c.after-self-inside.result;
      live = c.live_after.new.live;
      traces = c.traces_after.new.traces;
      holds = c.holds_after.new.holds;
      «open» = c.open_after.new.steps;
      finished = c.finished_after.new.finished;
      devices = c.claims_after.new.devices;
      boards = c.self.inside.boards;
      rows = c.change_if.new.rows;
      doubt = c.doubt_at-self-inside.result;
    }

-- Over the rows and the views after the event each device has its live entry of before.
claims-before : (c : goal.After-push_reserved) → map (claimed c.change_if.new.rows.rows c.self.inside.live.items) c.tell.new.devices ≡ c.tell.new.devices
claims-before c =
    let t = takes-inside c.args.facts.now c.self.inside c.args.self.now c.args.event c.self.invariant c.self.view_is c.requires in
    claims-as _ _ _ _ _
    (c.change_if.ensures.rows
    ∙ ap (λ (o : Option Change). changed_if o c.self.inside.rows.rows)
    (c.made_at.ensures ∙ ap (λ (o : Option Change). made_at c.args.event o c.self.inside.doubt) c.change_on-change.ensures))
    (c.tell.ensures
    ∙ ap (λ (bs : List ℕ). told_on (tells_on bs c.self.inside.devices c.self.inside.rows.rows c.args.event) bs c.self.inside.devices) c.deref-2.ensures.value)
    t.claims

next : (c : goal.After-push_reserved) → NextInside c.args.facts.now c.args.event c.self.inside (now_of c)
next c =
    let asked : c.change_on-change.result ≡ asked_of c.args.facts.now c.self.inside c.args.event = c.change_on-change.ensures in
    record {
      log = c.push_reserved.ensures.items;
      live = c.live_after.ensures.items;
      traces = c.traces_after.ensures.items ∙ ap (λ (hs : List Held). traces_on c.args.facts.now c.self.inside.devices hs c.args.event c.self.inside.traces.items) c.deref.ensures.value;
      holds = c.holds_after.ensures.items;
      opened = c.open_after.ensures.items;
      finished = c.finished_after.ensures.items;
      off = c.after-self-inside.ensures.off;
      boots = c.after-self-inside.ensures.boots;
      time = c.after-self-inside.ensures.time;
      limit = c.after-self-inside.ensures.limit;
      counted = c.after-self-inside.ensures.counted;
      rows = c.change_if.ensures.rows
          ∙ ap (λ (o : Option Change). changed_if o c.self.inside.rows.rows)
          (c.made_at.ensures ∙ ap (λ (o : Option Change). made_at c.args.event o c.self.inside.doubt) asked);
      doubt = c.doubt_at-self-inside.ensures ∙ ap (λ (o : Option Change). doubt_at c.args.event o c.self.inside.doubt) asked;
      devices = c.claims_after.ensures c.self.inside.live.items (c.deref-3.ensures.value ∙ c.live_after.ensures.items) (claims-before c)
          ∙ ap (λ (ls : List LiveEntry). map (claimed c.change_if.new.rows.rows ls) c.tell.new.devices) c.deref-3.ensures.value
          ∙ ap (λ (vs : List DeviceView). map (claimed c.change_if.new.rows.rows c.live_after.new.live.items) vs)
          (c.tell.ensures
          ∙ ap (λ (bs : List ℕ). told_on (tells_on bs c.self.inside.devices c.self.inside.rows.rows c.args.event) bs c.self.inside.devices) c.deref-2.ensures.value);
      boards = refl;
    }

rooms-on : (c : goal.After-push_reserved) → RoomsInside c.self.inside (now_of c)
rooms-on c =
    record {
      log = c.push_reserved.ensures.capacity;
      log_len = (let e = c.push_reserved.ensures.len in omega (arith, e));
      live = c.live_after.ensures.capacity;
      live_len = c.live_after.ensures.room;
      traces = c.traces_after.ensures.capacity;
      traces_len = c.traces_after.ensures.room;
      holds = c.holds_after.ensures.capacity;
      holds_len = c.holds_after.ensures.room;
      opened = c.open_after.ensures.capacity;
      opened_len = c.open_after.ensures.room;
      finished = c.finished_after.ensures.capacity;
      finished_len = c.finished_after.ensures.room;
    }

pub invariant_of-self : goal.invariant_of-self
invariant_of-self c =
    kept-on c.args.event c.self.inside (now_of c) c.self.invariant
    (next-parts c.args.facts.now c.args.event c.self.inside (now_of c)
    (takes-inside c.args.facts.now c.self.inside c.args.self.now c.args.event c.self.invariant c.self.view_is c.requires) (next c))

pub returns : goal.returns
returns c =
    record {
      after = after-inside c.args.facts.now c.args.event c.self.inside (now_of c) c.args.self.now c.self.invariant c.self.view_is (next c);
      room = room-left c.self.inside (now_of c) c.args.self.now c.self.view_is (rooms-on c);
      row_room = row-room-left c.self.inside (now_of c) c.args.self.now c.self.view_is c.change_if.ensures.room;
    }
