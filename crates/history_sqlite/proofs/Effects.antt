-- What a statement leaves that is refused or that only asks, and the tables as they are made.
use Rattle.std.proofs.Common.{◌≡◌, ◌⊎◌, inl, inr, ℕ, List, [], false, Option, Some, None, Ok, Err, Result, IsTrue, Any, refl, sym, ap, subst, ◌∙◌}
use Rattle.std.specs.Prelude.{slice_get}
use Rattle.std.proofs.lemmas.Bool.{cases_Bool}
use Rattle.sqlite.specs.Order.{Row as Values}
use Rattle.sqlite.specs.Compile.{table_defined_by}
use Rattle.sqlite.specs.Table.{Table}
use Rattle.sqlite.specs.Does.{Tally, OnTable}
use Rattle.sqlite.specs.Rows.{Part, Task}
use Rattle.sqlite_tied.specs.Compute.{everything}
use Rattle.sqlite.specs.declared.error.Error.{Error}
use Rattle.sqlite.specs.declared.run.Mode.{Mode}
use Rattle.sqlite.specs.Listing.{understood}
use Rattle.sqlite.specs.Effect.{Database}
use Rattle.sqlite_resolve.specs.declared.compiled.Compiled.{Compiled}
use Rattle.sqlite_schema.specs.declared.command.Command.{Command}
use Rattle.sqlite_schema.specs.declared.command.Returning.{Returning}
use Rattle.sqlite.specs.State.{State, Executes, ExecutesIn, IsNotRun, IsUnchanged, IsRolledBack, Runs, RunsCommand, shows_rows, Shown, ShowsRows, FailsToQuery, FailsToShow}
use Rattle.sqlite.specs.Clock.{timed}
use Rattle.sqlite.proofs.Callers.{IsPlain}
use Rattle.history_keeper.specs.declared.refusal.KeeperRefusal.{KeeperRefusal}
use Rattle.history_keeper.specs.declared.row.Row.{Row}
use Rattle.history_sqlite.specs.Causes.{FailsToRead, IsUnanswered}
use Rattle.history_sqlite.specs.Tables.{create_schema_text, create_history_text, schema_table, history_table, rows_tree, HoldsRows, HoldsOlderRows}

-- ---- a statement that is refused

-- The statement did nothing, or what it did is undone.
abbrev pub Stays : State → State → Type 0
Stays old new = IsUnchanged old new ⊎ IsRolledBack old new

pub refused_stays : (sql : List ℕ) (params : Values) (old new : State) (e : Error) → Executes sql params old new (Err e) → Stays old new
unfolding ExecutesIn IsNotRun
refused_stays sql params old new e (inl (inl none)) = inl none.1
refused_stays sql params old new e (inl (inr failed)) = inr failed.3
refused_stays sql params old new e (inr ran) = elim (cases_Bool (shows_rows false ran.0)) [
  | inl shows ↦ inl (rw shows at ran.2).1
  | inr runs ↦ commanded (rw runs at ran.2)
]
  where
    commanded : RunsCommand old new sql ran.0 (timed params ran.0.formats ran.1.now) (Err e) → Stays old new
    commanded (inl refused) = inl refused.1
    commanded (inr failed) = inr failed.3

pub stays : (old new : State) (rows : List Row) → HoldsRows old rows → new.step_limit ≡ old.step_limit → IsTrue new.is_open → Stays old new → HoldsRows new rows
stays old new rows h limit is_open (inl same) = record {
  layout = h.layout;
  is_open = is_open;
  schema = ap (λ (d : Database). d.schema) same.0.now_is ∙ h.schema;
  settled = same.0.committed_is ∙ h.settled ∙ sym same.0.now_is;
  autocommit = same.0.mode ∙ h.autocommit;
  unlimited = limit ∙ h.unlimited;
  number = (h.number.0, ap (λ (d : Database). d.trees 0) same.0.now_is ∙ h.number.1);
  table = ap (λ (d : Database). d.trees (rows_tree h.layout)) same.0.now_is ∙ h.table;
  entries = h.entries;
}
stays old new rows h limit is_open (inr back) = let undone = back.undone is_open in record {
  layout = h.layout;
  is_open = is_open;
  schema = ap (λ (d : Database). d.schema) (undone.0 ∙ h.settled) ∙ h.schema;
  settled = undone.1 ∙ sym undone.0;
  autocommit = back.autocommit;
  unlimited = limit ∙ h.unlimited;
  number = (h.number.0, ap (λ (d : Database). d.trees 0) (undone.0 ∙ h.settled) ∙ h.number.1);
  table = ap (λ (d : Database). d.trees (rows_tree h.layout)) (undone.0 ∙ h.settled) ∙ h.table;
  entries = h.entries;
}

pub older_stays : (old new : State) (rows : List Row) → HoldsOlderRows old rows → new.step_limit ≡ old.step_limit → IsTrue new.is_open → Stays old new → HoldsOlderRows new rows
older_stays old new rows h limit is_open (inl same) = record {
  is_open = is_open;
  schema = ap (λ (d : Database). d.schema) same.0.now_is ∙ h.schema;
  settled = same.0.committed_is ∙ h.settled ∙ sym same.0.now_is;
  autocommit = same.0.mode ∙ h.autocommit;
  unlimited = limit ∙ h.unlimited;
  number = (h.number.0, ap (λ (d : Database). d.trees 0) same.0.now_is ∙ h.number.1);
  table = ap (λ (d : Database). d.trees 1) same.0.now_is ∙ h.table;
  entries = h.entries;
}
older_stays old new rows h limit is_open (inr back) = let undone = back.undone is_open in record {
  is_open = is_open;
  schema = ap (λ (d : Database). d.schema) (undone.0 ∙ h.settled) ∙ h.schema;
  settled = undone.1 ∙ sym undone.0;
  autocommit = back.autocommit;
  unlimited = limit ∙ h.unlimited;
  number = (h.number.0, ap (λ (d : Database). d.trees 0) (undone.0 ∙ h.settled) ∙ h.number.1);
  table = ap (λ (d : Database). d.trees 1) (undone.0 ∙ h.settled) ∙ h.table;
  entries = h.entries;
}

-- ---- the tables as they are made

pub schema_made : table_defined_by create_schema_text ≡ Ok schema_table
unfolding everything
schema_made = refl

pub history_made : table_defined_by create_history_text ≡ Ok history_table
unfolding everything
history_made = refl

-- ---- parts of a statement

-- a part that gave a value did not stop on the way
pub went : {B E R : Type 0} {b : B} {Stops : E → Type 0} → ((stop : E) × Stops stop × (Ok b ≡ Err stop)) ⊎ R → R
went (inl stopped) = absurd (let e = stopped.2 in cc)
went (inr on) = on

pub same_value : {B E : Type 0} {a b : B} → ◌≡◌ {A = Result B E} (Ok a) (Ok b) → a ≡ b
same_value e = cc

-- what is done on a table is done on the one at its place
pub on_table : (limit : _) (mode : Mode) (params : Values) (db : Database) (at : ℕ) (table : Table) (P : Task → Part (Tally × Database)) (out : _) → slice_get db.schema.tables at ≡ Some table
    → OnTable limit mode params db at P out → P (record { limit = limit; keys = mode.keys; schema = db.schema; table = table; params = params }) out
on_table limit mode params db at table P out there h = rw there at h

-- ---- questions

pub show_changes_nothing : (sql : List ℕ) (params : Values) (old new : State) (shown : List Values) → IsPlain (understood old.now.schema sql) → Shown sql params old new shown → IsUnchanged old new
unfolding Shown
show_changes_nothing sql params old new shown plain h =
    let none = (subst IsPlain h.1.is plain).0 in
    (subst (ShowsRows old new sql h.0 (timed params h.0.formats h.1.now) shown) none h.2).3

pub query_stays : (sql : List ℕ) (params : Values) (old new : State) (e : Error) → IsPlain (understood old.now.schema sql) → FailsToQuery sql params old new e → Stays old new
unfolding FailsToQuery IsNotRun
query_stays sql params old new e plain (inl (inl none)) = inl none.1
query_stays sql params old new e plain (inl (inr failed)) = inr failed.3
query_stays sql params old new e plain (inr ran) =
    let none = (subst IsPlain ran.1.is plain).0 in inl (subst (FailsToShow old new sql ran.0 (timed params ran.0.formats ran.1.now) e) none ran.2).3

pub plain_at : (schema : _) (sql : List ℕ) (s : State) → s.now.schema ≡ schema → IsPlain (understood schema sql) → IsPlain (understood s.now.schema sql)
plain_at schema sql s is plain = subst (λ k. IsPlain (understood k sql)) (sym is) plain

-- ---- a connection that is open was open before

pub open_before : (old new : State) → Stays old new → IsTrue new.is_open → IsTrue old.is_open
open_before old new (inl same) is_open = same.0.was_open
open_before old new (inr back) is_open = back.was_open is_open

ran_open : (old new : State) (returning : Option Returning) (command : Command) (text : List ℕ) (params : Values) (count : ℕ) → Runs old new returning command text params count → IsTrue new.is_open → IsTrue old.is_open
ran_open old new returning (Command.Select q names) text params count h is_open = absurd h
ran_open old new returning (Command.Insert at from) text params count h is_open = h.shown.was_open
ran_open old new returning (Command.InsertOr at how from clauses) text params count h is_open = h.shown.was_open
ran_open old new returning (Command.Update at q) text params count h is_open = h.shown.was_open
ran_open old new returning (Command.Delete at q) text params count h is_open = h.shown.was_open
ran_open old new returning Command.CreateTable text params count h is_open = h.shown.was_open
ran_open old new returning (Command.CreateIndex at) text params count h is_open = h.shown.was_open
ran_open old new returning (Command.DropTable at) text params count h is_open = h.shown.was_open
ran_open old new returning (Command.DropIndex at) text params count h is_open = h.shown.was_open
ran_open old new returning Command.Begin text params count h is_open = h.1.was_open
ran_open old new returning Command.Commit text params count h is_open = h.1.was_open
ran_open old new returning Command.Rollback text params count h is_open = h.1.was_open is_open
ran_open old new returning (Command.Savepoint name) text params count h is_open = h.0.0.was_open
ran_open old new returning (Command.Release name) text params count h is_open = elim h.2 [
  | inl commits ↦ commits.1.0.was_open
  | inr drops ↦ drops.1.0.was_open
]
ran_open old new returning (Command.RollbackTo name) text params count h is_open = h.2.2.was_open
ran_open old new returning (Command.Rows values width names) text params count h is_open = h.0.0.was_open
ran_open old new returning Command.Nothing text params count h is_open = h.0.0.was_open
ran_open old new returning Command.CreateView text params count h is_open = h.shown.was_open
ran_open old new returning (Command.DropView at) text params count h is_open = h.shown.was_open

pub executed_open : (sql : List ℕ) (params : Values) (old new : State) (r : Result ℕ Error) → Executes sql params old new r → IsTrue new.is_open → IsTrue old.is_open
unfolding ExecutesIn
executed_open sql params old new (Ok count) h is_open = elim (cases_Bool (shows_rows false h.0)) [
  | inl shows ↦ (rw shows at h.2).1.0.was_open
  | inr runs ↦ ran_open old new h.0.returning h.0.command _ _ count (rw runs at h.2) is_open
]
executed_open sql params old new (Err e) h is_open = open_before old new (refused_stays sql params old new e h) is_open

showed_open : (old new : State) (sql : List ℕ) (c : Compiled) (params : Values) (shown : List Values) (returning : Option Returning) → ShowsRows old new sql c params shown returning → IsTrue old.is_open
showed_open old new sql c params shown None h = h.3.0.was_open
showed_open old new sql c params shown (Some what) h = h.1.shown.was_open

pub shown_open : (sql : List ℕ) (params : Values) (old new : State) (shown : List Values) → Shown sql params old new shown → IsTrue old.is_open
unfolding Shown
shown_open sql params old new shown h = showed_open old new sql h.0 (timed params h.0.formats h.1.now) shown h.0.returning h.2

failed_open : (old new : State) (sql : List ℕ) (c : Compiled) (params : Values) (e : Error) (returning : Option Returning) → FailsToShow old new sql c params e returning → IsTrue new.is_open → IsTrue old.is_open
failed_open old new sql c params e None h is_open = h.3.0.was_open
failed_open old new sql c params e (Some what) (inl refused) is_open = refused.1.0.was_open
failed_open old new sql c params e (Some what) (inr failed) is_open = failed.3.was_open is_open

pub unanswered_open : (sql : List ℕ) (params : Values) (old new : State) (e : Error) → FailsToQuery sql params old new e → IsTrue new.is_open → IsTrue old.is_open
unfolding FailsToQuery IsNotRun
unanswered_open sql params old new e (inl (inl none)) is_open = none.1.0.was_open
unanswered_open sql params old new e (inl (inr failed)) is_open = failed.3.was_open is_open
unanswered_open sql params old new e (inr ran) is_open = failed_open old new sql ran.0 (timed params ran.0.formats ran.1.now) e ran.0.returning ran.2 is_open

-- ---- why a select of rows is refused

pub unanswered_fails : (why : KeeperRefusal) (sql : List ℕ) (read : Values → Option Row) (old new : State) → IsUnanswered why sql old new → FailsToRead why sql read old new
unanswered_fails KeeperRefusal.Fault sql read old new h = inl h
unanswered_fails KeeperRefusal.NoMemory sql read old new h = inl h

-- the rows that it showed couldn't be read: one of them is none, or memory was wanting
pub unread_fails : (why : KeeperRefusal) (sql : List ℕ) (read : Values → Option Row) (old new : State) (shown : List Values) → Shown sql [] old new shown → (why ≡ KeeperRefusal.Fault → Any (λ columns. read columns ≡ None) shown) → FailsToRead why sql read old new
unread_fails KeeperRefusal.Fault sql read old new shown h strange = inr (shown, h, strange refl)
unread_fails KeeperRefusal.NoMemory sql read old new shown h strange = inr (shown, h)
