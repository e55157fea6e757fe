-- What parts of a run put among the own entries of a pass, one behind the other.
use Rattle.std.proofs.Common.{◌≡◌, ℕ, Bool, true, false, List, [], ◌∷◌, ◌++◌, map, refl, ap, sym, ◌∙◌, subst, append_assoc, inl, inr}
use Rattle.std.proofs.lemmas.List.{append-nil}
use Rattle.std.specs.Prelude.{Some, None, IfOk, OnErr, OnOk, Result, Ok, Err, ⊤}
use Rattle.block_pool.specs.Views.{SealedBytes}
use Rattle.emulated_boards.specs.Boards.{BoardState}
use Rattle.emulated_boards.specs.Conditions.{view_of}
use Rattle.emulated_boards.specs.declared.fault.BoardFault.{BoardFault}
use Rattle.emulated_boards.specs.declared.mark.Mark.{Mark}
use Rattle.plugin_trait.specs.Steps.{PluginSteps}
use Rattle.update_log.specs.declared.event.Event.{Event}
use Rattle.update_log.specs.declared.event.Op.{Op}
use Rattle.daemon_core.specs.declared.finished.Finished.{Finished}
use Rattle.claim_runs.specs.declared.outcome.Outcome.{Outcome}
use Rattle.device_claims.specs.Claims.{Noted, StepGives}
use Rattle.device_claims.specs.declared.claim.Parts.{Parts}
use Rattle.claim_runs.specs.Made.{AreMade, IsBegun, StepMade, cut_events, start_events, step_events}
use Rattle.claim_runs.proofs.Made.{are-made_on, given-of, payload-of}
use Rattle.turn_lock.specs.Shown.{PassView}
use Rattle.shared_daemon.specs.declared.entry.Entry.{Entry}
use Rattle.shared_daemon.specs.Calls.{Adds, FoundOff, Took}
use Rattle.shared_daemon.specs.Entries.{entry_of}
use Rattle.shared_daemon.specs.Names.{Name}
use Rattle.shared_daemon.proofs.Gains.{took-event, took-none}
use Rattle.shared_daemon.proofs.Logs.{begins-trans}
use Rattle.claim_runs.specs.Ran.{CameBack, Closes, Finishes, Gained, GaveBack, IsOver, MadeSteps, Ran, WasFinished, back_event}

map-join : (n : ℕ) (xs ys : List Event) → map (entry_of n) (xs ++ ys) ≡ map (entry_of n) xs ++ map (entry_of n) ys
map-join n [] ys = refl
map-join n (x ∷ xs) ys = ap (λ (l : List Entry). entry_of n x ∷ l) (map-join n xs ys)

steps-append : (client entry : ℕ) (xs ys : List StepMade) → step_events client entry (xs ++ ys) ≡ step_events client entry xs ++ step_events client entry ys
steps-append client entry [] ys = refl
steps-append client entry (s ∷ rest) ys =
    ap (λ (l : List Event). Event.Start client entry s.op ∷ Event.End client entry s.op s.outcome s.told s.seen ∷ l) (steps-append client entry rest ys)

-- Events behind events.
pub gained-on : (xs ys : List Event) (a b c : PassView Entry) → Gained xs a b → Gained ys b c → Gained (xs ++ ys) a c
gained-on xs ys a b c g h =
    record {
      same = h.same ∙ g.same;
      seen = begins-trans c.seen b.seen a.seen h.seen g.seen;
      mine_are = h.mine_are
          ∙ ap (λ (n : ℕ). b.mine ++ map (entry_of n) ys) g.same
          ∙ ap (λ (l : List Entry). l ++ map (entry_of a.number) ys) g.mine_are
          ∙ append_assoc a.mine (map (entry_of a.number) xs) (map (entry_of a.number) ys)
          ∙ ap (λ (l : List Entry). a.mine ++ l) (sym (map-join a.number xs ys));
    }

pub gained-none : (a : PassView Entry) → Gained [] a a
gained-none a = record { same = refl; seen = ([], sym (append-nil a.seen)); mine_are = sym (append-nil a.mine) }

gained-as : (xs ys : List Event) (a b : PassView Entry) → xs ≡ ys → Gained xs a b → Gained ys a b
gained-as xs ys a b e g = subst (λ (l : List Event). Gained l a b) e g

-- A turn that put this event behind the log, and one that was answered off.
pub gained-event : {did : List Entry → List Entry → Type 0} (name : Name) (event : Event) (old new : PassView Entry) → new.number ≡ old.number → (t : Took name did old new) → Adds old.number event t.met new.seen → Gained (event ∷ []) old new
gained-event {did} name event old new same t a =
    record {
      same = same;
      seen = begins-trans new.seen t.met old.seen (entry_of old.number event ∷ [], a) t.meets.begins;
      mine_are = took-event name did old new old.number event t a;
    }

pub gained-off : {did : List Entry → List Entry → Type 0} (name : Name) (old new : PassView Entry) → new.number ≡ old.number → (t : Took name did old new) → FoundOff old.number t.met new.seen → (cut : Bool) × Gained (cut_events cut) old new
gained-off {did} name old new same t (inl u) = (
  false,
  record {
    same = same;
    seen = begins-trans new.seen t.met old.seen ([], u.1 ∙ sym (append-nil t.met)) t.meets.begins;
    mine_are = took-none name did old new t u.1 ∙ sym (append-nil old.mine);
  },
)
gained-off {did} name old new same t (inr c) = (true, gained-event {did = did} name Event.Cut old new same t c.1)

-- A call that was answered off, and the giving back.
pub came-back : (entry : ℕ) (a b c : PassView Entry) → ((cut : Bool) × Gained (cut_events cut) a b) → Gained (back_event b.number entry ∷ []) b c → IsOver c → CameBack entry a c
came-back entry a b c (cut, g) h o =
    record {
      cut = cut;
      gained = gained-on (cut_events cut) (back_event a.number entry ∷ []) a b c g (subst (λ (n : ℕ). Gained (back_event n entry ∷ []) b c) g.same h);
      over = o;
    }

-- ---- what the plugin made

module _ {by : PluginSteps} {entry : ℕ} where
  -- A claim that is handed on as it is.
  made-none : {parts : Parts} {a : PassView Entry} → MadeSteps by entry parts parts a a
  made-none {parts} {a} = record { steps = []; gained = gained-none a; payload = refl; made = refl }

  pub made-here : {was is : Parts} {a : PassView Entry} → is ≡ was → MadeSteps by entry was is a a
  made-here {was} {is} {a} e = subst (λ (p : Parts). MadeSteps by entry was p a a) (sym e) made-none

  pub made-on : {p q r : Parts} {a b c : PassView Entry} → MadeSteps by entry p q a b → MadeSteps by entry q r b c → MadeSteps by entry p r a c
  made-on {p} {q} {r} {a} {b} {c} g h =
      let n : ℕ = a.number in
      let rest : Gained (step_events n entry h.steps) b c = subst (λ (i : ℕ). Gained (step_events i entry h.steps) b c) g.gained.same h.gained in
      record {
        steps = g.steps ++ h.steps;
        gained = gained-as (step_events n entry g.steps ++ step_events n entry h.steps) (step_events n entry (g.steps ++ h.steps)) a c (sym (steps-append n entry g.steps h.steps))
            (gained-on (step_events n entry g.steps) (step_events n entry h.steps) a b c g.gained rest);
        payload = h.payload ∙ g.payload;
        made = are-made_on by entry p.payload g.steps h.steps p.board q.board r.board g.made
            (subst (λ (x : SealedBytes). AreMade by entry x q.board h.steps r.board) g.payload h.made);
      }

  -- A step that was started and ended.
  made-one : {op : Op} {outcome : Result ⊤ BoardFault} {told : List Mark} {was is : Parts} {a b c : PassView Entry} → StepGives by op entry was.payload was.board outcome is.board → is.payload ≡ was.payload
      → Gained (Event.Start a.number entry op ∷ []) a b → Gained (Event.End b.number entry op outcome told (view_of is.board.condition) ∷ []) b c → MadeSteps by entry was is a c
  made-one {op} {outcome} {told} {was} {is} {a} {b} {c} m p g h =
      record {
        steps = record { op = op; outcome = outcome; told = told; seen = view_of is.board.condition } ∷ [];
        gained = gained-on (Event.Start a.number entry op ∷ []) (Event.End a.number entry op outcome told (view_of is.board.condition) ∷ []) a b c g
            (subst (λ (n : ℕ). Gained (Event.End n entry op outcome told (view_of is.board.condition) ∷ []) b c) g.same h);
        payload = p;
        made = (is.board, m, refl, refl);
      }

  -- The giving back, behind nothing, behind a start, and behind steps.
  pub back-none : {was : Parts} {a b : PassView Entry} → CameBack entry a b → GaveBack by entry was a b
  back-none {was} {a} {b} k =
      record { steps = []; started = None; cut = k.cut; gained = k.gained; over = k.over; last = was.board; made = refl; begun = tt }

  back-started : {op : Op} {was : Parts} (answer : Result ⊤ BoardFault) (is : BoardState) {a b c : PassView Entry} → StepGives by op entry was.payload was.board answer is
      → Gained (Event.Start a.number entry op ∷ []) a b → CameBack entry b c → GaveBack by entry was a c
  back-started {op} {was} answer is {a} {b} {c} m g k =
      record {
        steps = [];
        started = Some op;
        cut = k.cut;
        gained = gained-on (Event.Start a.number entry op ∷ []) (cut_events k.cut ++ back_event a.number entry ∷ []) a b c g
            (subst (λ (n : ℕ). Gained (cut_events k.cut ++ back_event n entry ∷ []) b c) g.same k.gained);
        over = k.over;
        last = was.board;
        made = refl;
        begun = (answer, is, m);
      }

  pub back-on : {p q : Parts} {a b c : PassView Entry} → MadeSteps by entry p q a b → GaveBack by entry q b c → GaveBack by entry p a c
  back-on {p} {q} {a} {b} {c} g k =
      let n : ℕ = a.number in
      let tail : List Event = start_events n entry k.started ++ (cut_events k.cut ++ back_event n entry ∷ []) in
      let rest : Gained (step_events n entry k.steps ++ tail) b c =
      subst (λ (i : ℕ). Gained (step_events i entry k.steps ++ (start_events i entry k.started ++ (cut_events k.cut ++ back_event i entry ∷ []))) b c) g.gained.same k.gained in
      record {
        steps = g.steps ++ k.steps;
        started = k.started;
        cut = k.cut;
        gained = gained-as (step_events n entry g.steps ++ (step_events n entry k.steps ++ tail)) (step_events n entry (g.steps ++ k.steps) ++ tail) a c
            (sym (append_assoc (step_events n entry g.steps) (step_events n entry k.steps) tail) ∙ ap (λ (l : List Event). l ++ tail) (sym (steps-append n entry g.steps k.steps)))
            (gained-on (step_events n entry g.steps) (step_events n entry k.steps ++ tail) a b c g.gained rest);
        over = k.over;
        last = k.last;
        made = are-made_on by entry p.payload g.steps k.steps p.board q.board k.last g.made
            (subst (λ (x : SealedBytes). AreMade by entry x q.board k.steps k.last) g.payload k.made);
        begun = subst (λ (x : SealedBytes). IsBegun by entry x k.last k.started) g.payload k.begun;
      }

  finished-on : {finished : Finished} {p q : Parts} {a b c : PassView Entry} → MadeSteps by entry p q a b → WasFinished entry finished b c → Finishes by entry p finished a c
  finished-on {finished} {p} {q} {a} {b} {c} g k =
      let n : ℕ = a.number in
      record {
        steps = g.steps;
        gained = gained-on (step_events n entry g.steps) (Event.Finish n entry finished.state finished.stored ∷ []) a b c g.gained
            (subst (λ (i : ℕ). Gained (Event.Finish i entry finished.state finished.stored ∷ []) b c) g.gained.same k.gained);
        free_is = k.free_is;
        last = q.board;
        made = g.made;
      }

  -- A finish, or a giving back, behind steps.
  pub ran-after : (o : Outcome) {p q : Parts} {a b : PassView Entry} (c : PassView Entry) → MadeSteps by entry p q a b → Closes entry o b c → Ran by entry p o a c
  ran-after (Outcome.Finished finished) c g h = finished-on g h
  ran-after Outcome.Off c g h = back-on g (back-none h)

-- The run, by the plugin at a place, of what was taken.
pub ran-at : (by at : PluginSteps) (entry : ℕ) (o : Outcome) (was taken : Parts) (a b : PassView Entry) → at ≡ by → was ≡ taken → Ran by entry was o a b → Ran at entry taken o a b
ran-at by at entry o was taken a b e w r =
    subst (λ (s : PluginSteps). Ran s entry taken o a b) (sym e) (subst (λ (p : Parts). Ran by entry p o a b) w r)

-- ---- what the end of a step answered

pub on-err : {T E : Type 0} (r : Result T E) (P : Type 0) → P → OnErr r P
on-err (Ok x) P p = tt
on-err (Err e) P p = p

pub made-end : {E : Type 0} (by : PluginSteps) {entry : ℕ} (r : Result Parts E) {op : Op} {outcome : Result ⊤ BoardFault} {was before is : Parts} {a b : PassView Entry} (c : PassView Entry)
    → was.entry ≡ entry → before ≡ was → StepGives by op before.entry before.payload before.board outcome is.board → Noted op before outcome is → Gained (Event.Start a.number entry op ∷ []) a b
    → IfOk r (λ next. next ≡ is) → OnOk r ((told : List Mark) × Gained (Event.End b.number entry op outcome told (view_of is.board.condition) ∷ []) b c) → IfOk r (λ next. MadeSteps by entry was next a c)
made-end by {entry} (Ok next) {op} {outcome} {was} {before} {is} {a} {b} c q s m n g e h =
    subst (λ (p : Parts). MadeSteps by entry was p a c) (sym e)
    (made-one (given-of by op entry was before outcome is.board q s m) (payload-of op was before is outcome s n) g h.1)
made-end by (Err x) c q s m n g e h = tt

pub gone-end : {E : Type 0} (by : PluginSteps) {entry : ℕ} (r : Result Parts E) {op : Op} {was before : Parts} (answer : Result ⊤ BoardFault) (is : BoardState) {a b : PassView Entry} (c : PassView Entry)
    → was.entry ≡ entry → before ≡ was → StepGives by op before.entry before.payload before.board answer is → Gained (Event.Start a.number entry op ∷ []) a b → OnErr r (CameBack entry b c) → OnErr r (GaveBack by entry was a c)
gone-end by (Ok next) answer is c q s m g h = tt
gone-end by {entry} (Err x) {op} {was} {before} answer is c q s m g h = back-started answer is (given-of by op entry was before answer is q s m) g h

-- ---- steps behind steps

pub made-after : {E : Type 0} {by : PluginSteps} {entry : ℕ} (r : Result Parts E) {p q : Parts} {a b : PassView Entry} (c : PassView Entry) → MadeSteps by entry p q a b → IfOk r (λ next. MadeSteps by entry q next b c) → IfOk r (λ next. MadeSteps by entry p next a c)
made-after (Ok next) c g h = made-on g h
made-after (Err x) c g h = tt

pub gone-after : {E : Type 0} {by : PluginSteps} {entry : ℕ} (r : Result Parts E) {p q : Parts} {a b : PassView Entry} (c : PassView Entry) → MadeSteps by entry p q a b → OnErr r (GaveBack by entry q b c) → OnErr r (GaveBack by entry p a c)
gone-after (Ok next) c g h = tt
gone-after (Err x) c g h = back-on g h
