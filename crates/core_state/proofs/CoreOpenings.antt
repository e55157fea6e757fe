-- A log of boots that couldn't read the history says the same over any rows before it.
use Rattle.std.proofs.Common.{◌≡◌, ℕ, true, List, [], ◌∷◌, map, refl, ap, sym, ◌∙◌, subst}
use Rattle.std.specs.Prelude.{Option, None, option_map, slice_get, unwrap_or}
use Rattle.fw_facts.specs.declared.seen.Seen.{Seen}
use Rattle.fw_facts.specs.declared.view.DeviceView.{DeviceView}
use Rattle.history_keeper.specs.declared.row.Row.{Row}
use Rattle.history_keeper.specs.Histories.{IsHistory}
use Rattle.update_log.specs.declared.event.BoardSeen.{BoardSeen}
use Rattle.update_log.specs.declared.event.Event.{Event}
use Rattle.update_log.specs.declared.event.Found.{Found}
use Rattle.update_log.specs.declared.facts.Facts.{Facts}
use Rattle.update_log.specs.declared.live.LiveEntry.{LiveEntry}
use Rattle.update_log.specs.Boards.{Board, devices}
use Rattle.core_state.specs.Core.{Core, Stands, trace_of_live}
use Rattle.update_log.specs.Pasts.{AllFaults, is_fault_boot, past_of}
use Rattle.update_log.specs.Holding.{live}
use Rattle.update_log.specs.Known.{Basis, basis_of, Known, doubt, known, rows, seen, view_of, views, views_in}

-- The boot that an event is.
record FaultBoot (event : Event) : Type 0 where
  number : ℕ
  time : ℕ
  limit : Option ℕ
  boards : List BoardSeen
  is : event ≡ Event.Boot number time limit Found.Fault boards

fault-boot : (event : Event) → is_fault_boot event ≡ true → FaultBoot event
fault-boot (Event.Boot number time limit Found.Fault boards) h = record { number = number; time = time; limit = limit; boards = boards; is = refl }
fault-boot _ h = cc

pub faults-live : (past : List Event) → AllFaults past → live past ≡ []
faults-live [] h = refl
faults-live (event ∷ past) h =
    let b : FaultBoot event = fault-boot event h.0 in
    ap (λ (e : Event). live (e ∷ past)) b.is

pub faults-rows : (basis : Basis) (past : List Event) → AllFaults past → rows basis past ≡ basis.opening
faults-rows basis [] h = refl
faults-rows basis (event ∷ past) h =
    let b : FaultBoot event = fault-boot event h.0 in
    ap (λ (e : Event). rows basis (e ∷ past)) b.is ∙ faults-rows basis past h.1

pub faults-doubt : (basis : Basis) (past : List Event) → AllFaults past → doubt basis past ≡ None
faults-doubt basis [] h = refl
faults-doubt basis (event ∷ past) h =
    let b : FaultBoot event = fault-boot event h.0 in
    ap (λ (e : Event). doubt basis (e ∷ past)) b.is ∙ faults-doubt basis past h.1

pub faults-seen : (facts : Facts) (before opening : List Row) (past : List Event) (board : ℕ) → AllFaults past → seen (basis_of facts before) past board ≡ seen (basis_of facts opening) past board
faults-seen facts before opening [] board h = refl
faults-seen facts before opening (event ∷ past) board h =
    let b : FaultBoot event = fault-boot event h.0 in
    ap (λ (e : Event). seen (basis_of facts before) (e ∷ past) board) b.is
    ∙ ap (λ (s : Seen). unwrap_or (option_map (λ x. x.seen) (slice_get b.boards board)) s) (faults-seen facts before opening past board h.1)
    ∙ ap (λ (e : Event). seen (basis_of facts opening) (e ∷ past) board) (sym b.is)

-- With no live entry a view is its board's sheet and what the board shows.
plain-view : (k m : Known) (board : Board) → k.shown board.number ≡ m.shown board.number → view_of [] k board ≡ view_of [] m board
plain-view k m board h =
    ap (λ (s : Seen). let v : DeviceView = record { sheet = board.sheet; seen = s; claim = None } in v) h

plain-views : (k m : Known) (boards : List Board) → ((b : ℕ) → k.shown b ≡ m.shown b) → map (view_of [] k) boards ≡ map (view_of [] m) boards
plain-views k m [] h = refl
plain-views k m (b ∷ bs) h =
    ap (λ (v : DeviceView). v ∷ map (view_of [] k) bs) (plain-view k m b (h b.number))
    ∙ ap (λ (vs : List DeviceView). view_of [] m b ∷ vs) (plain-views k m bs h)

pub faults-views : (facts : Facts) (before opening : List Row) (past : List Event) → AllFaults past → views (basis_of facts before) past ≡ views (basis_of facts opening) past
faults-views facts before opening past h =
    ap (λ (l : List LiveEntry). views_in facts l (known (basis_of facts before) past)) (faults-live past h)
    ∙ plain-views (known (basis_of facts before) past) (known (basis_of facts opening) past) (devices facts) (λ b. faults-seen facts before opening past b h)
    ∙ ap (λ (l : List LiveEntry). views_in facts l (known (basis_of facts opening) past)) (sym (faults-live past h))

faults-traces : (facts : Facts) (before opening : List Row) (past : List Event) → AllFaults past
    → map (trace_of_live (basis_of facts before) past) (live past) ≡ map (trace_of_live (basis_of facts opening) past) (live past)
faults-traces facts before opening past h =
    ap (λ (ls : List LiveEntry). map (trace_of_live (basis_of facts before) past) ls) (faults-live past h)
    ∙ ap (λ (ls : List LiveEntry). map (trace_of_live (basis_of facts opening) past) ls) (sym (faults-live past h))

-- So a state of such a log stands over other rows, once it has them.
pub opened-again : (facts : Facts) (before opening : List Row) (core new : Core) (n : ℕ)
    → new ≡ record core { rows = opening; row_room = n } → IsHistory opening → AllFaults (past_of core.log) → Stands (basis_of facts before) core → Stands (basis_of facts opening) new
opened-again facts before opening core new n e valid h s =
    let P : Core → Type 0 = λ k. Stands (basis_of facts opening) k in
    subst P (sym e) (record {
      history = valid;
      rows = sym (faults-rows (basis_of facts opening) (past_of core.log) h);
      views = s.views ∙ faults-views facts before opening (past_of core.log) h;
      boards = s.boards;
      traces = s.traces ∙ faults-traces facts before opening (past_of core.log) h;
      doubt = s.doubt ∙ faults-doubt (basis_of facts before) (past_of core.log) h ∙ sym (faults-doubt (basis_of facts opening) (past_of core.log) h);
    })
