-- What a client saw to hold still holds of the house that its turn meets.
use Rattle.std.proofs.Common.{◌≡◌, ℕ, true, List, [], ap, sym, ◌∙◌, subst, IsSome}
use Rattle.std.specs.Prelude.{Option, Some, Result, unwrap_or}
use Rattle.emulated_boards.specs.Boards.{BoardState}
use Rattle.emulated_boards.specs.declared.fault.BoardFault.{BoardFault}
use Rattle.emulated_boards.specs.declared.mark.Mark.{Mark}
use Rattle.history_keeper.specs.declared.row.Row.{Row}
use Rattle.history_keeper.specs.declared.row.RowState.{RowState}
use Rattle.history_keeper.specs.Signs.{KeeperSigns}
use Rattle.update_log.specs.declared.event.Event.{Event}
use Rattle.update_log.specs.declared.event.Op.{Op}
use Rattle.update_log.specs.declared.event.Query.{Query}
use Rattle.update_log.specs.declared.live.Held.{Held}
use Rattle.update_log.specs.declared.live.LiveEntry.{LiveEntry}
use Rattle.update_log.specs.Holding.{hold}
use Rattle.update_log.specs.Known.{Basis, row_of, rows}
use Rattle.update_log.specs.Legal.{IsFree, QueryAllowed, StartAllowed}
use Rattle.update_log.specs.Pasts.{off}
use Rattle.daemon_core.specs.HouseLog.{IsHouseLog}
use Rattle.daemon_core.specs.Finishes.{IsDone}
use Rattle.daemon_core.specs.Housed.{basis_in, Housed, past}
use Rattle.daemon_core.specs.Returns.{ComesHome, StepEnds, new_marks, number_of}
use Rattle.shared_daemon.specs.declared.entry.Entry.{Entry}
use Rattle.shared_daemon.specs.Calls.{Meets, WasSeen}
use Rattle.shared_daemon.specs.Entries.{chronicle, past_seen}
use Rattle.daemon_core.specs.Planned.{HasPlan}
use Rattle.shared_daemon.specs.Names.{IsLogOf, KeepsName, Name}
use Rattle.shared_daemon.specs.Others.{IsOwn}
use Rattle.shared_daemon.specs.Questions.{MayAsk}
use Rattle.shared_daemon.specs.Steps.{EndsOwn, GoesHome, MayFinish, MayStart}
use Rattle.shared_daemon.proofs.Others as others
use Rattle.shared_daemon.proofs.Seeing.{from-name, stays, to-name}

pub may-ask : (basis : Basis) (past : List Event) (query : Query) → MayAsk query → QueryAllowed basis past query
may-ask basis past (Query.Settle selector) m = absurd m
may-ask basis past _ m = tt

module _ {K : Type 0} (signs : KeeperSigns K) (name : Name) (client : ℕ) (h : Housed K) where
  -- What was seen stays, for the name's facts.
  seen-stays : (Holds : List Entry → Type 0) → (w : WasSeen name client Holds (chronicle h)) → others.Stays name.basis name.first client (past_seen w.seen) (past_seen (chronicle h))
  seen-stays Holds w = stays name client w.seen (chronicle h) w.log w.meets

  pub free-met : KeepsName signs name h → IsHouseLog h.house_log → WasSeen name client (λ seen. IsFree (past_seen seen) client) (chronicle h) → IsFree (past h) client
  free-met n k w =
      from-name signs name h n k (λ base s p. IsFree p client)
      (others.free-stays name.basis name.first client (past_seen w.seen) (past_seen (chronicle h)) (seen-stays (λ seen. IsFree (past_seen seen) client) w) w.holds)

  pub hold-met : (held : Held) → KeepsName signs name h → IsHouseLog h.house_log → WasSeen name client (λ seen. hold (past_seen seen) client ≡ Some held) (chronicle h) → hold (past h) client ≡ Some held
  hold-met held n k w =
      from-name signs name h n k (λ base s p. hold p client ≡ Some held)
      (others.hold-stays name.basis name.first client (past_seen w.seen) (past_seen (chronicle h)) (seen-stays (λ seen. hold (past_seen seen) client ≡ Some held) w) ∙ w.holds)

  pub start-met : (entry : ℕ) (op : Op) → KeepsName signs name h → IsHouseLog h.house_log → WasSeen name client (MayStart name client entry op) (chronicle h) → (l : LiveEntry) × StartAllowed (basis_in h.house_log) (past h) client entry op l
  start-met entry op n k w = (
    w.holds.0,
    from-name signs name h n k (λ base s p. StartAllowed base p client entry op w.holds.0)
        (others.start-stays name.basis name.first client (past_seen w.seen) (past_seen (chronicle h)) entry op w.holds.0 (seen-stays (MayStart name client entry op) w) w.holds.1),
  )

  pub ends-met : (entry : ℕ) (op : Op) (outcome : Result (Unit {0}) BoardFault) (b : BoardState) → KeepsName signs name h → IsHouseLog h.house_log → WasSeen name client (EndsOwn name client entry op outcome b) (chronicle h)
      → (number : ℕ) × StepEnds (basis_in h.house_log) h.house_log.first (past h) client entry op outcome number b
  ends-met entry op outcome b n k w =
      let e = w.holds in (
        e.number,
        from-name signs name h n k (λ base s p. StepEnds base s p client entry op outcome e.number b)
            (others.ends-stay name.basis name.first client (past_seen w.seen) (past_seen (chronicle h)) entry e.number op outcome b e.l (seen-stays (EndsOwn name client entry op outcome b) w) e.own e.ends),
      )

  pub comes-met : (entry : ℕ) (b : BoardState) (blocks : ℕ) → KeepsName signs name h → IsHouseLog h.house_log → WasSeen name client (MayFinish name client entry b blocks) (chronicle h)
      → (number : ℕ) × (l : LiveEntry) × ComesHome (basis_in h.house_log) h.house_log.first (past h) client entry number l [] b blocks
  comes-met entry b blocks n k w =
      let e = w.holds in (
        e.number,
        e.l,
        from-name signs name h n k (λ base s p. ComesHome base s p client entry e.number e.l [] b blocks)
            (others.home-stays name.basis name.first client (past_seen w.seen) (past_seen (chronicle h)) entry e.number e.l [] b blocks (seen-stays (MayFinish name client entry b blocks) w) e.comes),
      )

  pub done-met : (entry : ℕ) (b : BoardState) (blocks : ℕ) → KeepsName signs name h → IsHouseLog h.house_log → WasSeen name client (MayFinish name client entry b blocks) (chronicle h) → (closed : RowState) × IsDone (basis_in h.house_log) (past h) entry closed
  done-met entry b blocks n k w =
      let e = w.holds in
      let own : IsOwn (past_seen w.seen) client entry e.l = record { live = e.comes.live; client_is = e.comes.client_is } in (
        e.closed,
        from-name signs name h n k (λ base s p. IsDone base p entry e.closed)
            (others.done-stays name.basis name.first client (past_seen w.seen) (past_seen (chronicle h)) entry e.number e.l e.closed (seen-stays (MayFinish name client entry b blocks) w) own e.comes.board e.done),
      )

  pub back-met : (entry : ℕ) (b : BoardState) (blocks : ℕ) → KeepsName signs name h → IsHouseLog h.house_log → WasSeen name client (GoesHome name client entry b blocks) (chronicle h)
      → (number : ℕ) × (l : LiveEntry) × (tail : List Mark) × ComesHome (basis_in h.house_log) h.house_log.first (past h) client entry number l tail b blocks
  back-met entry b blocks n k w =
      let e = w.holds in (
        e.number,
        e.l,
        e.tail,
        from-name signs name h n k (λ base s p. ComesHome base s p client entry e.number e.l e.tail b blocks)
            (others.home-stays name.basis name.first client (past_seen w.seen) (past_seen (chronicle h)) entry e.number e.l e.tail b blocks (seen-stays (GoesHome name client entry b blocks) w) e.comes),
      )

  -- The faults that are planned for the board are those of the place that it comes to.
  pub finish-planned : (entry : ℕ) (b : BoardState) (blocks : ℕ) → KeepsName signs name h → IsHouseLog h.house_log → WasSeen name client (MayFinish name client entry b blocks) (chronicle h)
      → HasPlan name.plans (number_of (basis_in h.house_log) (past h) entry) b
  unfolding comes-met
  finish-planned entry b blocks n k w = subst (λ (i : ℕ). HasPlan name.plans i b) (sym (ap (λ (o : Option ℕ). unwrap_or o 0) (comes-met entry b blocks n k w).2.board)) w.holds.planned

  pub back-planned : (entry : ℕ) (b : BoardState) (blocks : ℕ) → KeepsName signs name h → IsHouseLog h.house_log → WasSeen name client (GoesHome name client entry b blocks) (chronicle h)
      → HasPlan name.plans (number_of (basis_in h.house_log) (past h) entry) b
  unfolding back-met
  back-planned entry b blocks n k w = subst (λ (i : ℕ). HasPlan name.plans i b) (sym (ap (λ (o : Option ℕ). unwrap_or o 0) (back-met entry b blocks n k w).3.board)) w.holds.planned

  pub off-met : (entry : ℕ) (b : BoardState) (blocks : ℕ) → KeepsName signs name h → IsHouseLog h.house_log → WasSeen name client (GoesHome name client entry b blocks) (chronicle h) → off (past h) ≡ true
  off-met entry b blocks n k w =
      from-name signs name h n k (λ base s p. off p ≡ true)
      (others.off-stays name.basis name.first client (past_seen w.seen) (past_seen (chronicle h)) (seen-stays (GoesHome name client entry b blocks) w) w.holds.off_is)

  -- The rows that the house has.
  pub rows-met : KeepsName signs name h → IsHouseLog h.house_log → h.house_log.core.rows ≡ rows name.basis (past_seen (chronicle h))
  rows-met n k = to-name signs name h n k (λ base s p. h.house_log.core.rows ≡ rows base p) k.stands.rows

  pub row-met : (entry : ℕ) → KeepsName signs name h → IsHouseLog h.house_log → WasSeen name client (λ seen. IsSome (row_of (rows name.basis (past_seen seen)) entry)) (chronicle h) → IsSome (row_of h.house_log.core.rows entry)
  row-met entry n k w =
      subst (λ (all : List Row). IsSome (row_of all entry)) (sym (rows-met n k))
      (others.row-stays name.basis name.first client (past_seen w.seen) (past_seen (chronicle h)) entry (seen-stays (λ seen. IsSome (row_of (rows name.basis (past_seen seen)) entry)) w) w.holds)

-- The same of the lists alone.
pub marks-met : (name : Name) (client : ℕ) (seen met : List Entry) (entry : ℕ) (op : Op) (outcome : Result (Unit {0}) BoardFault) (b : BoardState) → IsLogOf name seen → Meets name client seen met → EndsOwn name client entry op outcome b seen
    → new_marks name.basis (past_seen met) entry b.journal ≡ new_marks name.basis (past_seen seen) entry b.journal
marks-met name client seen met entry op outcome b l m e =
    others.marks-stay name.basis name.first client (past_seen seen) (past_seen met) entry e.number e.l b.journal (stays name client seen met l m) e.own e.ends.board

pub pending-met : (name : Name) (client : ℕ) (seen met : List Entry) (entry : ℕ) (row : Row) → IsLogOf name seen → Meets name client seen met → client ≡ 0 → row_of (rows name.basis (past_seen seen)) entry ≡ Some row → row.state ≡ RowState.Pending
    → row_of (rows name.basis (past_seen met)) entry ≡ Some row
pending-met name client seen met entry row l m c is p =
    others.pending-stays name.basis name.first client (past_seen seen) (past_seen met) entry row (stays name client seen met l m) c is p

pub same-row : (a b : Row) → Some a ≡ Some b → a ≡ b
same-row a b e = cc
