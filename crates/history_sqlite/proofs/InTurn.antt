-- Rows that are read one at a time, over a connection that reading leaves as it was.
use Rattle.std.proofs.Common.{◌≡◌, ◌∙◌, inl, inr, ℕ, ◌≤◌, List, [], ◌∷◌, ◌++◌, map, Option, None, Some, Ok, Err, Result, IsTrue, IfOk, IfErr, IfSome, OnOk, refl, sym, ap, subst, arith}
use Rattle.std.proofs.lemmas.Bool.{both_ways, cases_Bool}
use Rattle.std.proofs.lemmas.List.{map-append}
use Rattle.sqlite.specs.Clock.{timed}
use Rattle.sqlite.specs.declared.error.Error.{Error}
use Rattle.sqlite.specs.Effect.{Database, RefusesToRead}
use Rattle.sqlite.specs.Given.{Advances, FailsToAdvance, HasBegun, HasGiven, Returns}
use Rattle.sqlite.specs.Held.{Held, state}
use Rattle.sqlite.specs.Listing.{IsSourceOf, if_select, is_select, listing_schema, reads_listing, understood}
use Rattle.sqlite.specs.Order.{Row as Values}
use Rattle.sqlite.specs.Schema.{Schema}
use Rattle.sqlite.specs.State.{CommitsShowing, Fails, FailsToQuery, FailsToShow, HasCause, IsNoStatement, IsNotRun, IsUnchanged, Shown, ShowsRows, State, Survives}
use Rattle.sqlite.specs.Store.{Ghosts}
use Rattle.sqlite.specs.Tree.{Trees}
use Rattle.sqlite.proofs.Callers.{unchanged_then}
use Rattle.sqlite.proofs.StateLemmas.{survives_then, survives_weaker, unchanged}
use Rattle.sqlite_resolve.specs.Compile.{compiled, first, meaning, planned, returning, with_command}
use Rattle.sqlite_resolve.specs.Lowering.{and_then}
use Rattle.sqlite_resolve.specs.declared.compiled.Compiled.{Compiled}
use Rattle.sqlite_resolve.specs.declared.error.CompileError.{CompileError}
use Rattle.sqlite_tied.specs.Compute.{everything}
use Rattle.sqlite_trees.specs.declared.error.StoreError.{StoreError}
use Rattle.sqlite_trees.specs.declared.error.StoreError.TheVariants.{OutOfMemory, Io, Corrupt, Full, Broken, Unstorable}
use Rattle.history_keeper.specs.declared.refusal.KeeperRefusal.{KeeperRefusal}
use Rattle.history_keeper.specs.declared.row.Row.{Row}
use Rattle.history_sqlite.specs.Causes.{FailsToLoad, IsRead, select_text}
use Rattle.history_sqlite.specs.Columns.{row_read}
use Rattle.history_sqlite.specs.InTurn.{FailsOn, HasShown, IsBegun, ReadsAll, ReadsAlone, Turned}
use Rattle.history_sqlite.specs.declared.in_turn.Turn.{Turn}
use Rattle.history_sqlite.specs.Tables.{HoldsRows, Keeps, Loads}
use Rattle.history_sqlite.proofs.Effects.{same_value, stays}
use Rattle.history_sqlite.proofs.ReadBack.{all_back}
use Rattle.history_sqlite.proofs.Selecting.{gives}

-- ---- the select shows nothing of a write, whatever tables there are

of_command : (p : _) (formats : _) (r : Result _ CompileError) (c : Compiled)
    → and_then (and_then (and_then r (λ k. Ok (k, None))) (λ found. Ok (formats, found))) (λ plan. Ok (with_command p plan)) ≡ Ok c → c.returning ≡ None
of_command p formats (Ok k) c is = ap (λ (x : Compiled). x.returning) (sym (same_value is))
of_command p formats (Err e) c is = absurd cc

planned_shows : (schema : Schema) (p : _) (c : Compiled) → and_then (planned schema p) (λ plan. Ok (with_command p plan)) ≡ Ok c → ((base : ℕ) → returning schema base p.statement ≡ Ok None) → c.returning ≡ None
unfolding planned meaning
planned_shows schema p c is none = of_command p _ _ c (rw none at is)

read_shows : (schema : Schema) (text : List ℕ) (c : Compiled) → ((p : _) → first text ≡ Ok p → (base : ℕ) → returning schema base p.statement ≡ Ok None) → (r : _) → first text ≡ r
    → and_then r (λ p. and_then (planned schema p) (λ plan. Ok (with_command p plan))) ≡ Ok c → c.returning ≡ None
read_shows schema text c none (Ok p) was is = planned_shows schema p c is (none p was)
read_shows schema text c none (Err e) was is = absurd cc

compiled_shows : (schema : Schema) (text : List ℕ) (c : Compiled) → ((p : _) → first text ≡ Ok p → (base : ℕ) → returning schema base p.statement ≡ Ok None) → compiled schema text ≡ Ok c → c.returning ≡ None
unfolding compiled
compiled_shows schema text c none is = read_shows schema text c none (first text) refl is

if_selected : (r : Result Compiled CompileError) (c : Compiled) → if_select r ≡ Ok c → r ≡ Ok c
if_selected (Ok k) c is = elim (cases_Bool (is_select k.command)) [
  | inl so ↦ rw so at is
  | inr not_so ↦ absurd (let e = rw not_so at is in cc)
]
if_selected (Err e) c is = absurd cc

select_none : (schema : Schema) (p : _) → first select_text ≡ Ok p → (base : ℕ) → returning schema base p.statement ≡ Ok None
unfolding everything
select_none schema p is base = subst (λ q. returning schema base q.statement ≡ Ok None) (same_value is) refl

pub select_shows : (schema : Schema) (c : Compiled) → understood schema select_text ≡ Ok c → c.returning ≡ None
unfolding understood
select_shows schema c is = elim (cases_Bool (reads_listing schema select_text)) [
  | inl so ↦ compiled_shows listing_schema select_text c (select_none listing_schema) (if_selected (compiled listing_schema select_text) c (rw so at is))
  | inr not_so ↦ compiled_shows schema select_text c (select_none schema) (rw not_so at is)
]

-- ---- what a statement does after a time in which nothing was changed, it does from its begin on

pub shown_over : (old mid new : State) (shown : List Values) → IsUnchanged old mid → Shown select_text [] mid new shown → Shown select_text [] old new shown
unfolding Shown
shown_over old mid new shown same h =
    let none = select_shows mid.now.schema h.0 h.1.is in
    let full = timed [] h.0.formats h.1.now in
    let it = subst (ShowsRows mid new select_text h.0 full shown) none h.2 in (
      h.0,
      record { is = subst (λ (d : Database). understood d.schema select_text ≡ Ok h.0) same.0.now_is h.1.is; whole = h.1.whole; given = h.1.given; now = h.1.now },
      subst (ShowsRows old new select_text h.0 full shown) (sym none) (
        it.0,
        subst (λ (d : Database). IsSourceOf (reads_listing d.schema select_text) d it.0) same.0.now_is it.1,
        it.2,
        unchanged_then old mid new same it.3,
      ),
    )

pub read_over : (old mid new : State) (rows : List Row) → IsUnchanged old mid → IsRead mid new rows → IsRead old new rows
read_over old mid new rows same h = (h.0, shown_over old mid new h.0 same h.1, h.2)

cause_over : (old mid new : State) (e : StoreError) → old.faults ≤ mid.faults → IsTrue mid.is_open → HasCause mid new ⊥ e → HasCause old new ⊥ e
cause_over old mid new OutOfMemory low opened h = h
cause_over old mid new Io low opened h = omega arith
cause_over old mid new Corrupt low opened h = omega arith
cause_over old mid new Full low opened h = omega arith
cause_over old mid new Broken low opened h = absurd (both_ways _ h opened)
cause_over old mid new Unstorable low opened h = h

fails_over : (old mid new : State) (e : Error) → IsUnchanged old mid → old.faults ≤ mid.faults → Fails mid new ⊥ e → Fails old new ⊥ e
fails_over old mid new e same low h = (
  h.0,
  h.1,
  cause_over old mid new h.0 low same.0.is_open h.2,
  record {
    was_open = λ _. same.0.was_open;
    undone = λ now. ((h.3.undone now).0 ∙ same.0.committed_is, (h.3.undone now).1 ∙ same.0.committed_is);
    autocommit = h.3.autocommit;
    unmarked = h.3.unmarked;
    counts = record { changes = h.3.counts.changes ∙ same.1.changes; last_rowid = h.3.counts.last_rowid ∙ same.1.last_rowid };
  },
  h.4,
)

none_over : (old mid : State) (e : Error) → IsUnchanged old mid → IsNoStatement mid select_text [] e → IsNoStatement old select_text [] e
none_over old mid e same (inl h) = inl (h.0, subst (λ (d : Database). understood d.schema select_text ≡ Err h.0) same.0.now_is h.1, h.2)
none_over old mid e same (inr h) = inr (h.0, subst (λ (d : Database). understood d.schema select_text ≡ Ok h.0) same.0.now_is h.1, h.2)

pub unanswered_over : (old mid new : State) (e : Error) → IsUnchanged old mid → old.faults ≤ mid.faults → mid.step_limit ≡ old.step_limit → FailsToQuery select_text [] mid new e → FailsToQuery select_text [] old new e
unfolding FailsToQuery IsNotRun
unanswered_over old mid new e same low limit (inl (inl none)) =
    inl (inl (none_over old mid e same none.0, unchanged_then old mid new same none.1))
unanswered_over old mid new e same low limit (inl (inr failed)) = inl (inr (fails_over old mid new e same low failed))
unanswered_over old mid new e same low limit (inr ran) =
    let none = select_shows mid.now.schema ran.0 ran.1.is in
    let full = timed [] ran.0.formats ran.1.now in
    let it = subst (FailsToShow mid new select_text ran.0 full e) none ran.2 in
    inr (
      ran.0,
      record { is = subst (λ (d : Database). understood d.schema select_text ≡ Ok ran.0) same.0.now_is ran.1.is; whole = ran.1.whole; given = ran.1.given; now = ran.1.now },
      subst (FailsToShow old new select_text ran.0 full e) (sym none) (
        it.0,
        subst (λ (d : Database). IsSourceOf (reads_listing d.schema select_text) d it.0) same.0.now_is it.1,
        subst (λ (n : Option ℕ). RefusesToRead n ran.0.command it.0 full e) limit it.2,
        unchanged_then old mid new same it.3,
      ),
    )

pub load_over : (why : KeeperRefusal) (old mid new : State) → IsUnchanged old mid → old.faults ≤ mid.faults → mid.step_limit ≡ old.step_limit → FailsToLoad why mid new → FailsToLoad why old new
load_over KeeperRefusal.Fault old mid new same low limit (inl h) = inl (h.0, h.1, unanswered_over old mid new h.0 same low limit h.2)
load_over KeeperRefusal.Fault old mid new same low limit (inr h) = inr (h.0, shown_over old mid new h.0 same h.1, h.2)
load_over KeeperRefusal.NoMemory old mid new same low limit (inl h) = inl (h.0, h.1, unanswered_over old mid new h.0 same low limit h.2)
load_over KeeperRefusal.NoMemory old mid new same low limit (inr h) = inr (h.0, shown_over old mid new h.0 same h.1)

pub holds_over : (old mid : State) (rows : List Row) → IsUnchanged old mid → mid.step_limit ≡ old.step_limit → HoldsRows old rows → HoldsRows mid rows
holds_over old mid rows same limit h = stays old mid rows h limit same.0.is_open (inl same)

pub loads_over : (old mid new : State) (loaded : List Row) → IsUnchanged old mid → mid.step_limit ≡ old.step_limit → Loads mid new loaded → Loads old new loaded
loads_over old mid new loaded same limit h rows holds = h rows (holds_over old mid rows same limit holds)

pub keeps_over : (old mid new : State) → IsUnchanged old mid → mid.step_limit ≡ old.step_limit → Keeps mid new → Keeps old new
keeps_over old mid new same limit h rows holds = h rows (holds_over old mid rows same limit holds)

-- ---- what was read are the rows of the table

pub loads_read : (old new : State) (loaded : List Row) → new.step_limit ≡ old.step_limit → IsRead old new loaded → Loads old new loaded
loads_read old new loaded limit h rows holds =
    let given = gives old new rows h.0 holds limit h.1 in (all_back rows loaded (h.2 ∙ ap (map row_read) given.0), given.1)

-- ---- nothing is written

returns_none : (r : Result Compiled CompileError) → ((c : Compiled) → r ≡ Ok c → c.returning ≡ None) → ¬ Returns r
returns_none (Ok c) none some = let e = rw (none c refl) at some in cc
returns_none (Err e) none some = some

commits_none : (s : State) (db : Trees) → CommitsShowing select_text [] s db → ⊥
unfolding CommitsShowing
commits_none s db h = let e = rw (select_shows s.now.schema h.0 h.1.is) at h.2 in cc

pub commits_nothing : (old new : State) → Survives old new (CommitsShowing select_text [] old) → Survives old new (λ _. ⊥)
commits_nothing old new = survives_weaker old new (CommitsShowing select_text [] old) (λ _. ⊥) (λ clean db h. commits_none old db h)

pub survives_itself : (s : State) → Survives s s (λ _. ⊥)
survives_itself s = record { clean = omega arith; shield = λ h. h; counts = omega arith; limit = refl; closes = λ clean h. inl h; crash = λ clean db h. inl h }

pub survives_on : (a b c : State) → Survives a b (λ _. ⊥) → Survives b c (λ _. ⊥) → Survives a c (λ _. ⊥)
survives_on a b c = survives_then a b c (λ _. ⊥) (λ _. ⊥) (λ _. ⊥) (λ _ db none. none) (λ _ db none. none)

-- ---- the turns

module _ {D : Type 0} (store : Ghosts D) where
  -- a begun select
  pub begun : (old new : Held D) → HasBegun store select_text [] old new → IsBegun store new × IsUnchanged (state store old) (state store new)
  begun old new (inl h) = h
  begun old new (inr h) = absurd (returns_none (understood old.schema select_text) (λ c is. select_shows old.schema c is) h.0)

  -- what a turn did, by what it answered
  pub turned : (turn : Turn) (old new : Held D) (before after : List Row) (columns : Values) → Advances store old new (Some columns) → (turn ≡ Turn.Read → map Some after ≡ map Some before ++ row_read columns ∷ []) → (turn ≡ Turn.End → ⊥)
      → Turned store turn old new before after
  turned Turn.Read old new before after columns moved read ends = (columns, moved, read refl)
  turned Turn.End old new before after columns moved read ends = absurd (ends refl)
  turned Turn.Stuck old new before after columns moved read ends = tt

  -- a connection on which a select runs is open
  pub begun_open : (h : Held D) → IsBegun store h → IsTrue (state store h).is_open
  unfolding HasGiven
  begun_open h b = b.0.is_open

  -- nothing is read yet
  pub shown_none : (h : Held D) (read : List Row) → read ≡ [] → IsBegun store h → IsUnchanged (state store h) (state store h) × HasShown store h read
  shown_none h read none b = (unchanged (state store h) (begun_open h b), ([], b, ap (map Some) none))

  -- one row more
  pub shown_more : (old new : Held D) (before after : List Row) (columns : Values) → HasShown store old before → Advances store old new (Some columns) → map Some after ≡ map Some before ++ row_read columns ∷ [] → HasShown store new after
  shown_more old new before after columns h moved is = (
    h.0 ++ columns ∷ [],
    moved select_text [] h.0 h.1,
    is ∙ ap (λ (os : List (Option Row)). os ++ row_read columns ∷ []) h.2 ∙ sym (map-append row_read h.0 (columns ∷ [])),
  )

  -- all of them
  pub shown_all : (first old new : Held D) (read after : List Row) → IsUnchanged (state store first) (state store old) → HasShown store old read → Advances store old new None → after ≡ read → IsRead (state store first) (state store new) after
  shown_all first old new read after same h moved is = (
    h.0,
    shown_over (state store first) (state store old) (state store new) h.0 same (moved select_text [] h.0 h.1),
    ap (map Some) is ∙ h.2,
  )

  -- it failed in a turn
  pub failed_on : (first old new : Held D) (read : List Row) (e : Error) → IsUnchanged (state store first) (state store old) → Survives (state store first) (state store old) (λ _. ⊥) → HasShown store old read
      → FailsToAdvance store old new e → FailsToQuery select_text [] (state store first) (state store new) e
  failed_on first old new read e same survives h failed =
      unanswered_over (state store first) (state store old) (state store new) e same survives.counts survives.limit (failed select_text [] h.0 h.1)

  -- ---- from the begin of the select on

  pub whole_read : {V : Type 0} (items : V → List Row) (first start last : Held D) (result : Result (Option V) Error) → IsUnchanged (state store first) (state store start) → IsBegun store start
      → IfOk result (λ found. IfSome found (λ read. ReadsAll store start last (items read))) → IfOk result (λ found. IfSome found (λ read. IsRead (state store first) (state store last) (items read)))
  whole_read items first start last (Ok (Some read)) same b h = read_over (state store first) (state store start) (state store last) (items read) same (h b)
  whole_read items first start last (Ok None) same b h = tt
  whole_read items first start last (Err e) same b h = tt

  pub whole_same : {V : Type 0} (first start last : Held D) (result : Result V Error) → IsUnchanged (state store first) (state store start) → IsBegun store start
      → OnOk result (ReadsAlone store start last) → OnOk result (IsUnchanged (state store first) (state store last))
  whole_same first start last (Ok read) same b h = unchanged_then (state store first) (state store start) (state store last) same (h b)
  whole_same first start last (Err e) same b h = tt

  pub whole_failed : {V : Type 0} (first start last : Held D) (result : Result V Error) → IsUnchanged (state store first) (state store start) → IsBegun store start → Survives (state store first) (state store start) (λ _. ⊥)
      → IfErr result (FailsOn store start last) → IfErr result (FailsToQuery select_text [] (state store first) (state store last))
  whole_failed first start last (Ok read) same b survives h = tt
  whole_failed first start last (Err e) same b survives h =
      unanswered_over (state store first) (state store start) (state store last) e same survives.counts survives.limit (h b)
