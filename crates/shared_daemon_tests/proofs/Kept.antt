-- Rows that are there stay there, and a row that was put off waits for the daemon.
use Rattle.std.proofs.Common.{◌≡◌, ℕ, List, [], ◌∷◌, ◌++◌, refl, ap, sym, ◌∙◌, subst, reverse, IsSome}
use Rattle.std.proofs.lemmas.List.{reverse-append}
use Rattle.std.specs.Prelude.{Option, Some, None, option_map}
use Rattle.fw_facts.specs.declared.seen.Seen.{Seen}
use Rattle.history_keeper.specs.Histories.{IsHistory}
use Rattle.history_keeper.specs.Signs.{KeeperSigns}
use Rattle.history_keeper.specs.declared.row.Row.{Row}
use Rattle.history_keeper.specs.declared.row.RowState.{RowState}
use Rattle.update_log.specs.Known.{Basis, row_of, rows}
use Rattle.update_log.specs.Pasts.{past_of}
use Rattle.update_log.specs.declared.event.Event.{Event}
use Rattle.daemon_core.specs.HouseLog.{IsHouseLog, IsLegalSo}
use Rattle.daemon_core.specs.Housed.{Housed}
use Rattle.daemon_core.proofs.BoardsQuiet.{goes-so}
use Rattle.turn_lock.specs.Lists.{beyond}
use Rattle.shared_daemon.specs.declared.entry.Entry.{Entry}
use Rattle.shared_daemon.specs.Entries.{chronicle, events, past_seen}
use Rattle.shared_daemon.specs.Names.{IsLogOf, KeepsName, Name}
use Rattle.shared_daemon.proofs.Logs.{begins-all, events-append}
use Rattle.shared_daemon.proofs.OthersRows.{some-goes_on}
use Rattle.shared_daemon.proofs.Stayed.{rows-met}
use Rattle.shared_daemon_tests.specs.Waits.{HasRow, IsPutOff}

-- A legal past without its last event.
rest-legal : (basis : Basis) (first : List Seen) (event : Event) (past : List Event) → IsLegalSo basis first (event ∷ past) → IsLegalSo basis first past
rest-legal basis first event past (plans, legal) = (plans, legal.0)

-- More events take no row away.
rows-stay : (basis : Basis) (first : List Seen) (more past : List Event) (entry : ℕ) → IsHistory basis.opening → IsLegalSo basis first (more ++ past) → IsSome (row_of (rows basis past) entry) → IsSome (row_of (rows basis (more ++ past)) entry)
rows-stay basis first [] past entry valid legal h = h
rows-stay basis first (event ∷ more) past entry valid legal h =
    some-goes_on (rows basis (more ++ past)) (rows basis (event ∷ (more ++ past))) entry
    (goes-so basis first (more ++ past) event valid legal)
    (rows-stay basis first more past entry valid (rest-legal basis first event (more ++ past) legal) h)

-- A row that was there as the daemon began is in each log of its name.
pub has-row : (name : Name) (entry : ℕ) (seen : List Entry) → IsLogOf name seen → HasRow name entry name.start → HasRow name entry seen
has-row name entry seen l h =
    let more : List Entry = beyond name.start seen in
    let whole : events seen ≡ events name.start ++ events more = ap events (begins-all seen name.start l.begins) ∙ events-append name.start more in
    let turned : past_seen seen ≡ reverse (events more) ++ past_seen name.start = ap (λ (x : List Event). past_of x) whole ∙ reverse-append (events name.start) (events more) in
    let legal : IsLegalSo name.basis name.first (reverse (events more) ++ past_seen name.start) = subst (λ (x : List Event). IsLegalSo name.basis name.first x) turned l.legal in
    subst (λ (x : List Event). IsSome (row_of (rows name.basis x) entry)) (sym turned)
    (rows-stay name.basis name.first (reverse (events more)) (past_seen name.start) entry l.history legal h)

-- One that was put off is there.
pub has-put-off : (name : Name) (entry : ℕ) (seen : List Entry) → IsPutOff name entry seen → HasRow name entry seen
has-put-off name entry seen w = subst (λ (o : Option Row). IsSome o) (sym w.row_is) refl

-- The rows of a house are those that its name sees.
found-pending : (name : Name) (seen : List Entry) (all : List Row) (entry : ℕ) (o : Option Row) → all ≡ rows name.basis (past_seen seen) → row_of all entry ≡ o → option_map (λ (r : Row). r.state) o ≡ Some RowState.Pending → IsPutOff name entry seen
found-pending name seen all entry None e f h = cc
found-pending name seen all entry (Some row) e f h =
    record {
      row = row;
      row_is = ap (λ (x : List Row). row_of x entry) (sym e) ∙ f;
      pending = cc;
    }

found-some : (o : Option Row) (state : RowState) → option_map (λ (r : Row). r.state) o ≡ Some state → IsSome o
found-some None state h = cc
found-some (Some row) state h = refl

module _ {K : Type 0} (signs : KeeperSigns K) (name : Name) (h : Housed K) (n : KeepsName signs name h) (k : IsHouseLog h.house_log) where
  pub put-off-in : (entry : ℕ) → option_map (λ (r : Row). r.state) (row_of h.house_log.core.rows entry) ≡ Some RowState.Pending → IsPutOff name entry (chronicle h)
  put-off-in entry s = found-pending name (chronicle h) h.house_log.core.rows entry (row_of h.house_log.core.rows entry) (rows-met signs name 0 h n k) refl s

  pub row-in : (entry : ℕ) (state : RowState) → option_map (λ (r : Row). r.state) (row_of h.house_log.core.rows entry) ≡ Some state → HasRow name entry (chronicle h)
  row-in entry state s = subst (λ (x : List Row). IsSome (row_of x entry)) (rows-met signs name 0 h n k) (found-some (row_of h.house_log.core.rows entry) state s)
