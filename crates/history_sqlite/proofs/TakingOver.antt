-- What the statements do by which the rows of schema 1 are taken over.
use Rattle.std.proofs.Common.{◌≡◌, ℕ, ℤ, pos, negsuc, List, [], ◌∷◌, map, true, false, None, Result, Ok, Err, IsTrue, inl, inr, refl, sym, ap, subst, ◌∙◌, arith}
use Rattle.std.specs.Ordering.{is_eq}
use Rattle.std.specs.List.Sorted.{IsPermutation}
use Rattle.history_sqlite.proofs.Inserting.{either}
use Rattle.sqlite.specs.declared.types.Value.TheVariants.{Null, Int}
use Rattle.sqlite.specs.Order.{Row as Values}
use Rattle.sqlite_value.specs.Order.{value_cmp}
use Rattle.sqlite_value.proofs.OrderLemmas.{value_cmp-Int}
use Rattle.sqlite.specs.Ops.{unary}
use Rattle.sqlite.specs.Kind.TheVariants.{Integer}
use Rattle.sqlite.specs.Term.{lit, col}
use Rattle.sqlite.specs.Command.TheVariants.{CreateTable, Update}
use Rattle.sqlite.specs.Query.{Query, inner, end, IsAnswer, output, Output, page}
use Rattle.sqlite.specs.Program.{overlay}
use Rattle.sqlite.specs.Edit.{edit_of, edited, put_all, numbered}
use Rattle.sqlite_rules.specs.Calls.{ids_of}
use Rattle.sqlite.specs.Tree.{Trees, without_rowid}
use Rattle.sqlite.specs.Cast.{cast, cast_row}
use Rattle.sqlite.specs.Rowids.TheVariants.{Given}
use Rattle.sqlite.specs.Schema.{Schema}
use Rattle.sqlite.specs.Does.{Tally, Does}
use Rattle.sqlite.specs.Rows.{Written}
use Rattle.sqlite_tied.specs.Compute.{everything}
use Rattle.sqlite.specs.Listing.{understood}
use Rattle.sqlite.specs.Effect.{Database}
use Rattle.sqlite.specs.State.{State, mode_of, Executes, ExecutesInside, IsRolledBack, KeepsCommit, Shows, Survives}
use Rattle.sqlite.specs.Steps.{FailsToCommit}
use Rattle.sqlite.specs.declared.error.Error.{Error}
use Rattle.sqlite.proofs.StateLemmas.{survives_then}
use Rattle.sqlite.proofs.Callers.{IsPlain, command_of, statement_of, runs_as, one_permutation}
use Rattle.history_keeper.specs.declared.row.Row.{Row}
use Rattle.history_sqlite.specs.Causes.{renumber_text}
use Rattle.history_sqlite.specs.Columns.{taken_over}
use Rattle.history_sqlite.specs.Tables.{Layout, create_history_text, schema_table, history_table, older_schema, history_schema, AreNumbered, HoldsRows, HoldsOlderRows, KeepsOlder, CountsOlder, TakesAll, TakesOver}
use Rattle.history_sqlite.specs.Taking.{HoldsCopies, IsUntaken, AreTaken, MayWriteOver, WritesOver}
use Rattle.history_sqlite.proofs.Effects.{went, same_value, history_made}
use Rattle.history_sqlite.proofs.Layouts.{one_step_of}
use Rattle.history_sqlite.proofs.Copying.{numbered_over}
use Rattle.history_sqlite.proofs.Making.{creates}

-- ---- the table is made

create_is : (command_of (understood older_schema create_history_text) ≡ CreateTable) × (statement_of create_history_text (understood older_schema create_history_text) ≡ create_history_text)
unfolding understood everything
create_is = (refl, refl)

create_plain : IsPlain (understood older_schema create_history_text)
unfolding understood everything
create_plain = (refl, refl)

pub made_over : (old new : State) (older : List Row) (count : ℕ) → IsUntaken old older → IsTrue new.in_transaction → Executes create_history_text [] old new (Ok count) → HoldsCopies new older []
made_over old new older count untaken inside ran =
    let made = creates older_schema create_history_text history_table create_is.0 create_is.1 create_plain history_made refl old new count untaken.schema ran in
    record { inside = inside; schema = made.0; number = (untaken.number.0, made.2.0 ∙ untaken.number.1); stays = made.2.1.0 ∙ untaken.stays; table = made.1; entries = untaken.entries }

-- ---- the number is set

abbrev taken_schema : Schema
taken_schema = history_schema Layout.TakenOver

abbrev renumbering : Query
renumbering = record {
  from = inner 0 end;
  filter = [];
  group = None;
  project = col 1 0 ∷ col 1 0 ∷ lit (Int (pos 2)) ∷ [];
  distinct = false;
  collations = [];
  order = [];
  limit = lit (Int (negsuc 0));
  offset = lit (Int (pos 0));
}

renumber_is : command_of (understood taken_schema renumber_text) ≡ Update 0 (record { lets = []; body = renumbering })
unfolding understood everything
renumber_is = refl

renumber_plain : IsPlain (understood taken_schema renumber_text)
unfolding understood everything
renumber_plain = (refl, refl)

cast_integer : (n : ℤ) → cast Integer (Int n) ≡ Int n
unfolding unary
cast_integer n = either _ (Int n)

same_rowid : (id : ℤ) → is_eq (value_cmp (Int id) (Int id)) ≡ true
same_rowid id = ap is_eq (value_cmp-Int id id) ∙ grind arith

-- the number as it is stored, as the query gives it, and as it is stored then
module _ (id : ℤ) where
  abbrev before : Values
  before = Int id ∷ Int (pos 1) ∷ []

  abbrev given : Values
  given = Int id ∷ Int id ∷ Int (pos 2) ∷ []

  abbrev after : Values
  after = Int id ∷ Int (pos 2) ∷ []

  cast_after : cast_row schema_table after ≡ after
  cast_after = rw (cast_integer id, cast_integer (pos 2))

  none_else : without_rowid id (before ∷ []) ≡ []
  none_else = rw (same_rowid id)

  edits : (db : Trees) (found : List Values) → db 0 ≡ before ∷ [] → IsAnswer renumbering (overlay db []) [] found → edited db (edit_of db schema_table (ids_of found) Given 1 found) ≡ after ∷ []
  edits db found holds a =
      let o : Output = ([], given) in
      let staged : a.staged ≡ ([] ∷ before ∷ []) ∷ [] = a.grouped ∙ ap (λ (all : List Values). map (λ (r : Values). [] ∷ r ∷ []) all) holds in
      let kept : a.kept ≡ o ∷ [] = a.distinct ∙ ap (map (output renumbering)) staged in
      let ordered = one_permutation o a.ordered (subst (λ k. IsPermutation k a.ordered) kept a.same) in
      let one : found ≡ given ∷ [] = a.shown ∙ ap (λ (xs : List Output). page renumbering [] (map (λ (p : Output). p.1) xs)) ordered in
      ap (λ (all : List Values). edited db (edit_of db schema_table (ids_of all) Given 1 all)) one
      ∙ ap (λ (rest : List Values). put_all rest (numbered Given rest (cast_row schema_table after ∷ []))) (ap (without_rowid id) holds ∙ none_else)
      ∙ ap (λ (r : Values). put_all [] (numbered Given [] (r ∷ []))) cast_after

pub renumbered : (old new : State) (older : List Row) (count : ℕ) → HoldsCopies old older older → IsTrue new.in_transaction → Executes renumber_text [] old new (Ok count) → AreTaken new older
renumbered old new older count h inside ran =
    let db = old.now.trees in
    let command = Update 0 (record { lets = []; body = renumbering }) in
    let w = runs_as renumber_text [] old new taken_schema h.schema command renumber_is renumber_plain count ran in
    let text = statement_of renumber_text (understood taken_schema renumber_text) in
    let done = went (subst (λ s. Does old.step_limit (mode_of old) [] (record old.now { schema = s }) text None command (Ok (w.tally, new.now))) h.schema w.changed) in
    let now = ap (λ (p : Tally × Database). p.1) (same_value (went (went done.2).2).2) in
    let asked = went done.1 in
    let written = went asked.2 in
    let trees : done.0.trees ≡ written.0 = ap (λ (it : Written). it.trees) (same_value written.2) in
    let step = one_step_of Layout.TakenOver _ db written.0 (edit_of db schema_table (ids_of asked.0) Given 1 asked.0) written.1 in
    let other : written.0 3 ≡ db 3 = step.tables.1.1.0 (λ e. omega (arith, e)) in
    record {
      inside = inside;
      schema = ap (λ (d : Database). d.schema) now;
      number = (h.number.0, ap (λ (d : Database). d.trees 0) now ∙ ap (λ (t : Trees). t 0) trees ∙ step.rows ∙ edits h.number.0 db asked.0 h.number.1 (asked.1.answer Null));
      table = ap (λ (d : Database). d.trees 3) now ∙ ap (λ (t : Trees). t 3) trees ∙ other ∙ h.table;
    }

-- ---- the commit

pub committed : (last three : State) (older : List Row) → AreTaken three older → AreNumbered 1 older → Shows three last three.now three.now false → last.step_limit ≡ None → HoldsRows last (map taken_over older)
committed last three older taken low ends limit = record {
  layout = Layout.TakenOver;
  is_open = ends.is_open;
  schema = ap (λ (d : Database). d.schema) ends.now_is ∙ taken.schema;
  settled = ends.committed_is ∙ sym ends.now_is;
  autocommit = ends.mode;
  unlimited = limit;
  number = (taken.number.0, ap (λ (d : Database). d.trees 0) ends.now_is ∙ taken.number.1);
  table = ap (λ (d : Database). d.trees 3) ends.now_is ∙ taken.table;
  entries = numbered_over 1 older low;
}

-- ---- one after the other

pub survives_same : (s : State) → Survives s s (λ _. ⊥)
survives_same s = record { clean = omega arith; shield = λ h. h; counts = omega arith; limit = refl; closes = λ clean h. inl h; crash = λ clean db h. inl h }

pub survives_both : (a b c : State) → Survives a b (λ _. ⊥) → Survives b c (λ _. ⊥) → Survives a c (λ _. ⊥)
survives_both a b c = survives_then a b c (λ _. ⊥) (λ _. ⊥) (λ _. ⊥) (λ _ db none. none) (λ _ db none. none)

-- what the transaction begins with
pub untaken : (s : State) (older : List Row) → HoldsOlderRows s older → IsUntaken (record s { in_transaction = true }) older
untaken s older h = record { inside = refl; schema = h.schema; number = h.number; stays = h.table; entries = h.entries }

-- ---- the whole

pub takes : (old mid new : State) (count : ℕ) → CountsOlder old mid count → WritesOver mid new count → TakesOver old new
takes old mid new count counts writes rows holds = let given = counts rows holds in writes rows given.1 (sym given.0)

pub may_take : (old mid : State) (count : ℕ) (db : Trees) → CountsOlder old mid count → MayWriteOver mid count db → TakesAll old db
may_take old mid count db counts may rows holds = let given = counts rows holds in may rows given.1 (sym given.0)

-- ---- nothing is committed within

pub inside_keeps : (sql : List ℕ) (params : Values) (old new : State) (r : Result ℕ Error) → ExecutesInside 0 sql params old new r → KeepsCommit old new
inside_keeps sql params old new (Ok count) h = record { was_open = λ _. h.1.was_open; committed = λ _. h.1.committed_is }
inside_keeps sql params old new (Err e) (inl (ran, inl same)) = record { was_open = λ _. same.0.was_open; committed = λ _. same.0.committed_is }
inside_keeps sql params old new (Err e) (inl (ran, inr back)) = record { was_open = back.was_open; committed = λ o. (back.undone o).1 }
inside_keeps sql params old new (Err e) (inr late) = let same = late.2 in record { was_open = λ _. same.0.was_open; committed = λ _. same.0.committed_is }

pub keeps_same : (s : State) → KeepsCommit s s
keeps_same s = record { was_open = λ o. o; committed = λ _. refl }

pub keeps_then : (a b c : State) → KeepsCommit a b → KeepsCommit b c → KeepsCommit a c
keeps_then a b c one two = record { was_open = λ o. one.was_open (two.was_open o); committed = λ o. two.committed o ∙ one.committed (two.was_open o) }

-- a transaction that is rolled back leaves the rows of schema 1
pub undone_over : (old three last : State) → KeepsCommit (record old { in_transaction = true }) three → IsRolledBack three last → last.step_limit ≡ old.step_limit → IsTrue last.is_open → KeepsOlder old last
undone_over old three last kept back limit is_open rows h =
    let undone = back.undone is_open in
    let same = kept.committed (back.was_open is_open) in
    let now : last.now ≡ old.now = undone.0 ∙ same ∙ h.settled in
    record {
      is_open = is_open;
      schema = ap (λ (d : Database). d.schema) now ∙ h.schema;
      settled = undone.1 ∙ same ∙ h.settled ∙ sym now;
      autocommit = back.autocommit;
      unlimited = limit ∙ h.unlimited;
      number = (h.number.0, ap (λ (d : Database). d.trees 0) now ∙ h.number.1);
      table = ap (λ (d : Database). d.trees 1) now ∙ h.table;
      entries = h.entries;
    }

-- why a commit is refused that ends a transaction
pub refused_commit : (three last : State) (e : Error) → IsTrue three.in_transaction → FailsToCommit three last e → IsRolledBack three last
refused_commit three last e inside (inl failed) = failed.3
refused_commit three last e inside (inr late) = absurd (let no : true ≡ false = sym inside ∙ late.1 in cc)
