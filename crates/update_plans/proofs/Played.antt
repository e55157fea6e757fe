-- What a play of a step makes of a log, in which nothing was out before: a row more, and what its board shows.
use Rattle.std.proofs.Common.{◌≡◌, ℕ, suc, ◌&&◌, ◌==◌, Bool, true, false, List, [], ◌∷◌, ◌++◌, append_assoc, refl, sym, ap, ◌∙◌, arith}
use Rattle.std.specs.Prelude.{All, Option, Some, None, Ok, find, option_map, option_and_then, unwrap_or, if◌then◌else◌}
use Rattle.std.specs.List.{AllByRecursion, fold}
use Rattle.std.specs.Str.{bytes_eq}
use Rattle.std.proofs.lemmas.Bool.{eqb-true, and_parts}
use Rattle.fw_facts.specs.declared.seen.Seen.{Seen}
use Rattle.fw_facts.specs.Views.{flags_of}
use Rattle.emulated_boards.specs.declared.mark.Mark.{Mark}
use Rattle.history_keeper.specs.Changes.{changed}
use Rattle.history_keeper.specs.declared.change.Change.{Change}
use Rattle.history_keeper.specs.declared.row.Row.{Row}
use Rattle.history_keeper.specs.declared.row.RowState.{RowState}
use Rattle.release_catalogue.specs.Lookup.{Chosen}
use Rattle.release_catalogue.specs.declared.reference.ReleaseRef.{ReleaseRef}
use Rattle.update_log.specs.declared.answer.AskAnswer.{AskAnswer}
use Rattle.update_log.specs.declared.answer.ClaimAnswer.{ClaimAnswer}
use Rattle.update_log.specs.declared.event.Event.{Event}
use Rattle.update_log.specs.declared.event.Op.{Op}
use Rattle.update_log.specs.declared.event.Stored.{Stored}
use Rattle.update_log.specs.declared.refusal.FetchNote.{FetchNote}
use Rattle.update_log.specs.declared.request.Request.{Request}
use Rattle.update_log.specs.declared.trace.Trace.{Trace}
use Rattle.update_log.specs.Boards.{Board}
use Rattle.update_log.specs.Holding.{blocks_fetched, holds, live, without_entry}
use Rattle.update_log.specs.Known.{Fate, Target, board_of, for_board, known, new_row, reason_of, row_of, rows, rows_by, seen, target, view_of as view_in, views}
use Rattle.update_log.specs.Legal.{next_entry}
use Rattle.update_log.specs.Pasts.{off, time_of}
use Rattle.update_log.specs.Shows.{marks}
use Rattle.update_log.specs.Steps.{closing, closing_at, closing_of, first_trace, next_op, trace, view_of_row, with_step}
use Rattle.update_log.proofs.Lists.{eqb-self, find-push_new}
use Rattle.update_plans.specs.Following.{is_step_of}
use Rattle.update_plans.specs.Plans.{Scene, is_next, request_of, seen_of, shown_after, waits_for_boot, with_op}
use Rattle.update_plans.specs.declared.plan.PlanStep.{PlanStep}
use Rattle.update_plans.proofs.Shown.{IsOf, board-of-entry, view-now}

-- ---- steps of an entry

abbrev pub AreSteps : ℕ → ℕ → List Event → Type 0
AreSteps client entry steps = AllByRecursion (λ event. is_step_of client entry event ≡ true) steps

pub each-step : (client entry : ℕ) (steps : List Event) → All (λ event. is_step_of client entry event ≡ true) steps → AreSteps client entry steps
each-step client entry [] a = tt
each-step client entry (event ∷ steps) a = (a 0 event (omega arith), each-step client entry steps (λ k d within. a (suc k) d (omega (arith, within))))

-- What steps leave as it is.
pub record Left (s : Scene) (base whole : List Event) : Type 0 where
  pub rows_are : rows s.basis whole ≡ rows s.basis base
  pub live_is : live whole ≡ live base
  pub holds_are : holds whole ≡ holds base
  pub time_is : time_of whole ≡ time_of base
  pub off_is : off whole ≡ off base

pub left : (s : Scene) (entry : ℕ) (steps base : List Event) → AreSteps s.client entry steps → Left s base (steps ++ base)
left s entry [] base a = record { rows_are = refl; live_is = refl; holds_are = refl; time_is = refl; off_is = refl }
left s entry (event ∷ steps) base a = of event a.0 (left s entry steps base a.1)
  where
    of : (event : Event) → is_step_of s.client entry event ≡ true → Left s base (steps ++ base) → Left s base (event ∷ steps ++ base)
    of (Event.Start client taken op) h l = record { rows_are = l.rows_are; live_is = l.live_is; holds_are = l.holds_are; time_is = l.time_is; off_is = l.off_is }
    of (Event.End client taken op outcome told shown) h l = record { rows_are = l.rows_are; live_is = l.live_is; holds_are = l.holds_are; time_is = l.time_is; off_is = l.off_is }
    of (Event.Boot number time limit found boards) h l = cc
    of (Event.Query client query) h l = cc
    of (Event.Ask client request pending answer) h l = cc
    of (Event.Claim client request fetched answer) h l = cc
    of (Event.Schedule client request answer) h l = cc
    of (Event.Resume client taken fetched answer stored) h l = cc
    of (Event.Finish client taken state stored) h l = cc
    of (Event.Judge client taken version state stored) h l = cc
    of (Event.Unplug client device answer) h l = cc
    of (Event.Plug client device answer) h l = cc
    of (Event.GiveBack client what) h l = cc
    of Event.Cut h l = cc

-- They tell of the board of their entry alone.
pub others-left : (s : Scene) (entry : ℕ) (steps base : List Event) → AreSteps s.client entry steps → (number board : ℕ) → board_of s.basis.facts (rows s.basis base) entry ≡ Some number → (number == board) ≡ false
    → seen s.basis (steps ++ base) board ≡ seen s.basis base board
others-left s entry [] base a number board at other = refl
others-left s entry (event ∷ steps) base a number board at other = of event a.0 (others-left s entry steps base a.1 number board at other)
  where
    here : board_of s.basis.facts (rows s.basis (steps ++ base)) entry ≡ Some number
    here = let l = left s entry steps base a.1 in ap (λ (all : List Row). board_of s.basis.facts all entry) l.rows_are ∙ at

    of : (event : Event) → is_step_of s.client entry event ≡ true → seen s.basis (steps ++ base) board ≡ seen s.basis base board → seen s.basis (event ∷ steps ++ base) board ≡ seen s.basis base board
    of (Event.Start client taken op) h rest = rest
    of (Event.End client taken op outcome told shown) h rest =
        let parts = and_parts (client == s.client) (taken == entry) h in
        let same : taken ≡ entry = eqb-true taken entry parts.1 in
        let none : for_board (board_of s.basis.facts (rows s.basis (steps ++ base)) taken) board shown ≡ None =
        ap (λ (n : ℕ). for_board (board_of s.basis.facts (rows s.basis (steps ++ base)) n) board shown) same
        ∙ ap (λ (o : Option ℕ). for_board o board shown) here ∙ ap (λ (t : Bool). if t then Some shown else None) other in
        ap (λ (o : Option Seen). unwrap_or o (seen s.basis (steps ++ base) board)) none ∙ rest
    of _ h rest = cc

-- The entry's trace keeps the flags with which it was taken.
pub record Traced (s : Scene) (entry : ℕ) (past : List Event) (flags : List Bool) : Type 0 where
  pub t : Trace
  pub trace_is : trace s.basis entry past ≡ Some t
  pub flags_are : t.flags ≡ flags

pub traced : (s : Scene) (entry : ℕ) (steps base : List Event) (flags : List Bool) → AreSteps s.client entry steps → Traced s entry base flags → Traced s entry (steps ++ base) flags
traced s entry [] base flags a t = t
traced s entry (event ∷ steps) base flags a t = of event a.0 (traced s entry steps base flags a.1 t)
  where
    of : (event : Event) → is_step_of s.client entry event ≡ true → Traced s entry (steps ++ base) flags → Traced s entry (event ∷ steps ++ base) flags
    of (Event.Start client taken op) h r = record { t = r.t; trace_is = r.trace_is; flags_are = r.flags_are }
    of (Event.End client taken op outcome told shown) h r =
        let parts = and_parts (client == s.client) (taken == entry) h in
        record {
          t = with_step (record { op = op; outcome = outcome; seen = shown }) r.t;
          trace_is = rw (parts.1, r.trace_is) refl;
          flags_are = r.flags_are;
        }
    of (Event.Boot number time limit found boards) h r = cc
    of (Event.Query client query) h r = cc
    of (Event.Ask client request pending answer) h r = cc
    of (Event.Claim client request fetched answer) h r = cc
    of (Event.Schedule client request answer) h r = cc
    of (Event.Resume client taken fetched answer stored) h r = cc
    of (Event.Finish client taken state stored) h r = cc
    of (Event.Judge client taken version state stored) h r = cc
    of (Event.Unplug client device answer) h r = cc
    of (Event.Plug client device answer) h r = cc
    of (Event.GiveBack client what) h r = cc
    of Event.Cut h r = cc

-- The planned steps are such steps.
pub record Steps (s : Scene) (entry : ℕ) (base whole : List Event) : Type 0 where
  pub steps : List Event
  pub are : AreSteps s.client entry steps
  pub whole_is : whole ≡ steps ++ base

pub with-steps : (s : Scene) (step : PlanStep) (chosen : Chosen) (entry : ℕ) (ops : List Op) (base : List Event) → Steps s entry base (fold (with_op s step chosen entry) base ops)
with-steps s step chosen entry [] base = record { steps = []; are = tt; whole_is = refl }
with-steps s step chosen entry (op ∷ ops) base =
    let one : Steps s entry base (with_op s step chosen entry base op) =
    taken-if (marks op entry chosen.release.digest) (shown_after op (waits_for_boot s step.device base) step.raw (seen_of s step.device base)) (is_next (next_op s.basis base entry) op) in
    let more : Steps s entry (with_op s step chosen entry base op) (fold (with_op s step chosen entry) (with_op s step chosen entry base op) ops) = with-steps s step chosen entry ops (with_op s step chosen entry base op) in
    record {
      steps = more.steps ++ one.steps;
      are = both more.steps one.steps more.are one.are;
      whole_is = more.whole_is ∙ ap (λ (events : List Event). more.steps ++ events) one.whole_is ∙ sym (append_assoc more.steps one.steps base);
    }
  where
    mine : ((s.client == s.client) && (entry == entry)) ≡ true
    mine = rw (eqb-self s.client, eqb-self entry) refl

    taken-if : (told : List Mark) (shown : Seen) (taken : Bool)
        → Steps s entry base (if taken then Event.End s.client entry op (Ok tt) told shown ∷ Event.Start s.client entry op ∷ base else base)
    taken-if told shown true = record { steps = Event.End s.client entry op (Ok tt) told shown ∷ Event.Start s.client entry op ∷ []; are = (mine, (mine, tt)); whole_is = refl }
    taken-if told shown false = record { steps = []; are = tt; whole_is = refl }

    both : (xs ys : List Event) → AreSteps s.client entry xs → AreSteps s.client entry ys → AreSteps s.client entry (xs ++ ys)
    both [] ys a b = b
    both (x ∷ xs) ys a b = (a.0, both xs ys a.1 b)

-- ---- a whole play

-- The rows behind a play: one more, which ended in that state.
abbrev pub rows_with : List Row → ℕ → Row → ℕ → RowState → List Row
rows_with all time row entry state = changed (Change.Advance entry state (reason_of (all ++ row ∷ []) entry) time) (all ++ row ∷ [])

-- What a play made of the log before it.
pub record Made (s : Scene) (past ended : List Event) (b : Board) (row : Row) (entry : ℕ) (state : RowState) : Type 0 where
  pub rows_are : rows s.basis ended ≡ rows_with (rows s.basis past) (time_of past) row entry state
  pub none_live : live ended ≡ []
  pub no_hold : holds ended ≡ []
  pub time_is : time_of ended ≡ time_of past
  pub others : (board : ℕ) → (b.number == board) ≡ false → seen s.basis ended board ≡ seen s.basis past board

module _ (s : Scene) (number : ℕ) (step : PlanStep) (chosen : Chosen) (past : List Event) (no_hold : holds past ≡ []) (none_live : live past ≡ []) (fresh : row_of (rows s.basis past) (next_entry s.basis past) ≡ None)
    (t : Target) (target_is : target s.basis.facts (views s.basis past) (request_of s number step chosen) ≡ Some t) (b : Board) (of : IsOf s step.device b) (device_is : t.view.sheet.device ≡ step.device)
    (blocks : ℕ) (release : ReleaseRef) (fetched : FetchNote) (steps : List Event) (are : AreSteps s.client (next_entry s.basis past) steps) where
  abbrev entry : ℕ
  entry = next_entry s.basis past

  abbrev asks : Request
  asks = request_of s number step chosen

  -- the log behind the claim, and behind the steps
  abbrev pub begun : List Event
  begun = Event.Claim s.client asks fetched (ClaimAnswer.Entry entry) ∷ Event.Ask s.client asks None (AskAnswer.Hold blocks release) ∷ past

  abbrev pub last : List Event
  last = steps ++ begun

  abbrev pub row : Row
  row = new_row entry (time_of past) s.client asks RowState.Begun t

  rows-begun : rows s.basis begun ≡ rows s.basis past ++ row ∷ []
  rows-begun =
      ap (λ (o : Option Target). rows_by Fate.Made (option_map (λ t. Change.Add (new_row entry (time_of past) s.client asks RowState.Begun t)) o) (rows s.basis past)) target_is

  row-begun : row_of (rows s.basis begun) entry ≡ Some row
  row-begun = ap (λ (all : List Row). row_of all entry) rows-begun ∙ find-push_new (λ r. r.entry == entry) (rows s.basis past) row fresh (eqb-self entry)

  live-begun : live begun ≡ record { client = s.client; entry = entry; blocks = blocks_fetched fetched } ∷ []
  live-begun = rw none_live refl

  holds-begun : holds begun ≡ []
  holds-begun = rw (no_hold, eqb-self s.client) refl

  traced-begun : Traced s entry begun (flags_of t.view)
  traced-begun = record { t = first_trace t; trace_is = rw (eqb-self entry, target_is) refl; flags_are = refl }

  at-board : board_of s.basis.facts (rows s.basis begun) entry ≡ Some b.number
  at-board = board-of-entry s step.device b (rows s.basis begun) entry row of row-begun device_is

  kept : Left s begun last
  kept = left s entry steps begun are

  -- before the finish: in which state it ends
  pub record Closes : Type 0 where
    pub t_last : Trace
    pub flags_are : t_last.flags ≡ flags_of t.view
    pub closing_is : closing s.basis last entry ≡ Some (closing_of t_last row (view_in (live last) (known s.basis last) b))

  pub closes : Closes
  closes =
      let r = traced s entry steps begun (flags_of t.view) are traced-begun in
      record {
        t_last = r.t;
        flags_are = r.flags_are;
        closing_is =
            ap (option_and_then (λ t. option_and_then (closing_at (views s.basis last) t) (row_of (rows s.basis last) entry))) r.trace_is
            ∙ ap (option_and_then (closing_at (views s.basis last) r.t)) row-last
            ∙ ap (option_map (closing_of r.t row)) view-last;
      }
    where
      row-last : row_of (rows s.basis last) entry ≡ Some row
      row-last = ap (λ (all : List Row). row_of all entry) kept.rows_are ∙ row-begun

      view-last : view_of_row (views s.basis last) row ≡ Some (view_in (live last) (known s.basis last) b)
      view-last = ap (λ (device : List ℕ). find (λ v. bytes_eq v.sheet.device device) (views s.basis last)) device_is ∙ view-now s step.device b last of

  -- and behind it
  abbrev pub ended : RowState → List Event
  ended state = Event.Finish s.client entry state Stored.Yes ∷ last

  pub made : (state : RowState) → Made s past (ended state) b row entry state
  made state = record {
    rows_are =
        ap (λ (all : List Row). changed (Change.Advance entry state (reason_of all entry) (time_of last)) all) (kept.rows_are ∙ rows-begun)
        ∙ ap (λ (time : ℕ). changed (Change.Advance entry state (reason_of (rows s.basis past ++ row ∷ []) entry) time) (rows s.basis past ++ row ∷ [])) kept.time_is;
    none_live = ap (without_entry entry) (kept.live_is ∙ live-begun) ∙ gone;
    no_hold = kept.holds_are ∙ holds-begun;
    time_is = kept.time_is;
    others = λ board other. others-left s entry steps begun are b.number board at-board other;
  }
    where
      gone : without_entry entry (record { client = s.client; entry = entry; blocks = blocks_fetched fetched } ∷ []) ≡ []
      gone = rw (eqb-self entry) refl
