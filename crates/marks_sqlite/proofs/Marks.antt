-- What the statements do to the table of marks.
use Rattle.std.proofs.Common.{◌≡◌, inl, inr, ℕ, pos, negsuc, ◌+◌, ◌<◌, List, [], ◌∷◌, ◌++◌, length, map, codes, true, false, None, Ok, IsTrue, refl, sym, ap, subst, subst₂, ◌∙◌, arith}
use Rattle.std.specs.Result.{is_ok}
use Rattle.std.specs.Prelude.{fold, ◌+ℤ◌}
use Rattle.std.specs.List.{AllByRecursion}
use Rattle.std.specs.List.Sorted.{IsPermutation}
use Rattle.std.specs.declared.cmp.Ordering.TheVariants.{Less}
use Rattle.std.proofs.lemmas.Cmp.{on_total}
use Rattle.std.proofs.lemmas.List.Concat.{flat_map_single}
use Rattle.history_sqlite.proofs.Selecting.{drop_none}
use Rattle.sqlite.specs.declared.types.Value.TheVariants.{Null, Int}
use Rattle.sqlite.specs.declared.error.Error.{Error}
use Rattle.sqlite.specs.Order.{Row as Values}
use Rattle.sqlite.specs.Term.{Term, lit, col}
use Rattle.sqlite.specs.Source.TheVariants.{Values as given}
use Rattle.sqlite.specs.Command.TheVariants.{Insert, Select, CreateTable}
use Rattle.sqlite.specs.Collation.TheVariants.{Binary}
use Rattle.sqlite.specs.Query.{Query, IsAnswer, output, output_cmp, Output, inner, end}
use Rattle.sqlite.specs.Program.{overlay}
use Rattle.sqlite.specs.Compile.{table_defined_by}
use Rattle.sqlite.specs.Edit.{edit_of, edited, next_rowid, put_all, without_all, numbered}
use Rattle.sqlite.specs.Cast.{cast_row}
use Rattle.sqlite.specs.Tree.{Trees, put_row, rowid, IsAscending}
use Rattle.sqlite.specs.Rowids.TheVariants.{Chosen}
use Rattle.sqlite.specs.Does.{Tally, Does, OnRows}
use Rattle.sqlite.specs.Rows.{Written}
use Rattle.sqlite.specs.Store.{Ghosts}
use Rattle.sqlite.specs.Held.{Held, state}
use Rattle.sqlite.specs.Listing.{understood, reads_listing, listing_schema}
use Rattle.sqlite.specs.Effect.{Database}
use Rattle.sqlite.specs.State.{State, mode_of, text_of, CommitsBy, Executes, ExecutesIn, MayCommit, Shown, FailsToQuery}
use Rattle.sqlite.specs.Clock.{timed}
use Rattle.sqlite_value.specs.Keys.{ascending}
use Rattle.sqlite_schema.specs.declared.schema.Keys.{Keys}
use Rattle.sqlite_rules.specs.Action.{works, Writes}
use Rattle.sqlite_rules.specs.Edit.{id_in, taken_by, Applies, Edit}
use Rattle.sqlite_sql.proofs.QueryLemmas.{key_cmp_total}
use Rattle.sqlite_keyed.proofs.SortLemmas.{sorted_unique}
use Rattle.sqlite_tied.specs.Compute.{everything}
use Rattle.sqlite.proofs.Callers.{IsPlain, command_of, one_step, reads_as, runs_as, statement_of}
use Rattle.history_sqlite.proofs.Effects.{Stays, went, same_value, on_table, plain_at, query_stays, show_changes_nothing}
use Rattle.history_sqlite.proofs.Inserting.{cast_null, cast_whole, lower}
use Rattle.history_sqlite.proofs.Making.{creates, create_does}
use Rattle.marks_sqlite.specs.Causes.{insert_text, select_text}
use Rattle.marks_sqlite.specs.Tables.{create_text, marks_schema, no_schema, reported_table, shown_of, stored, stored_from, HoldsMarks, IsBlank, LeavesTable, Opens}

-- ---- a statement that is refused, or that only asks

pub stays : (old new : State) (marks : List ℕ) → HoldsMarks old marks → new.step_limit ≡ old.step_limit → IsTrue new.is_open → Stays old new → HoldsMarks new marks
stays old new marks h limit is_open (inl same) = record {
  is_open = is_open;
  schema = ap (λ (d : Database). d.schema) same.0.now_is ∙ h.schema;
  settled = same.0.committed_is ∙ h.settled ∙ sym same.0.now_is;
  autocommit = same.0.mode ∙ h.autocommit;
  unlimited = limit ∙ h.unlimited;
  table = ap (λ (d : Database). d.trees 0) same.0.now_is ∙ h.table;
}
stays old new marks h limit is_open (inr back) = let undone = back.undone is_open in record {
  is_open = is_open;
  schema = ap (λ (d : Database). d.schema) (undone.0 ∙ h.settled) ∙ h.schema;
  settled = undone.1 ∙ sym undone.0;
  autocommit = back.autocommit;
  unlimited = limit ∙ h.unlimited;
  table = ap (λ (d : Database). d.trees 0) (undone.0 ∙ h.settled) ∙ h.table;
}

-- ---- the table as it is made

pub reported_made : table_defined_by create_text ≡ Ok reported_table
unfolding everything
reported_made = refl

pub create_is : (command_of (understood no_schema create_text) ≡ CreateTable) × (statement_of create_text (understood no_schema create_text) ≡ create_text)
unfolding understood everything
create_is = (refl, refl)

pub create_plain : IsPlain (understood no_schema create_text)
unfolding understood everything
create_plain = (refl, refl)

-- an empty database in which it is made
pub makes : (old new : State) (count : ℕ) → IsBlank old → new.step_limit ≡ old.step_limit → Executes create_text [] old new (Ok count) → HoldsMarks new []
makes old new count blank limit ran =
    let made = creates no_schema create_text reported_table create_is.0 create_is.1 create_plain reported_made refl old new count blank.schema ran in
    let w = runs_as create_text [] old new no_schema blank.schema CreateTable create_is.0 create_plain count ran in
    record {
      is_open = w.shown.is_open;
      schema = made.0;
      settled = rw blank.autocommit at w.shown.committed_is;
      autocommit = w.shown.mode ∙ blank.autocommit;
      unlimited = limit ∙ blank.unlimited;
      table = made.1;
    }

-- it isn't made twice
made_twice : is_ok (understood marks_schema create_text) ≡ false
unfolding understood listing_schema everything
made_twice = refl

pub not_again : (old new : State) (count : ℕ) → old.now.schema ≡ marks_schema → Executes create_text [] old new (Ok count) → ⊥
unfolding ExecutesIn
not_again old new count has h =
    let e : is_ok (understood marks_schema create_text) ≡ true = ap is_ok (ap (λ s. understood s create_text) (sym has) ∙ h.1.is) in absurd (let f = made_twice in cc)

-- a refusal leaves an empty database empty
pub blank_stays : (old new : State) → IsBlank old → old.committed ≡ old.now → new.step_limit ≡ old.step_limit → IsTrue new.is_open → Stays old new → IsBlank new
blank_stays old new b settled limit is_open (inl same) = record {
  is_open = is_open;
  schema = ap (λ (d : Database). d.schema) same.0.now_is ∙ b.schema;
  autocommit = same.0.mode ∙ b.autocommit;
  unlimited = limit ∙ b.unlimited;
}
blank_stays old new b settled limit is_open (inr back) = record {
  is_open = is_open;
  schema = ap (λ (d : Database). d.schema) ((back.undone is_open).0 ∙ settled) ∙ b.schema;
  autocommit = back.autocommit;
  unlimited = limit ∙ b.unlimited;
}

-- what a crash may leave of the making
crash_left : (s : State) (db : Trees) → MayCommit s None CreateTable create_text [] db → IsBlank s → db 0 ≡ []
crash_left s db (inl (inl is, same)) blank = absurd (let e = is in cc)
crash_left s db (inl (inr named, same)) blank = absurd (let e = named.2 in cc)
crash_left s db (inr w) blank =
    let made = create_does no_schema create_text reported_table create_is.0 create_is.1 create_plain reported_made refl s w.1 w.2 blank.schema w.3 in
    ap (λ (t : Trees). t 0) w.5 ∙ made.1

pub crash_made : (s : State) (db : Trees) → CommitsBy create_text [] s db → IsBlank s → db 0 ≡ []
unfolding CommitsBy
crash_made s db h blank =
    let known = sym h.1.is ∙ ap (λ k. understood k create_text) blank.schema in
    let bare = subst IsPlain (sym known) create_plain in
    let may : MayCommit s h.0.returning h.0.command (text_of create_text h.0) (timed [] h.0.formats h.1.now) db = h.2 in
    let it = subst₂ (λ k t. MayCommit s None k t [] db) (ap command_of known ∙ create_is.0) (ap (statement_of create_text) known ∙ create_is.1) (rw (bare.0, bare.1) at may) in crash_left s db it blank

-- ---- an opening

pub opened_after : (old mid new : State) → LeavesTable old mid → Opens mid new → Opens old new
opened_after old mid new left opens = (λ marks holds. opens.0 marks (left.0 marks holds), λ blank. opens.1 (left.1 blank))

-- a step limit that is taken off changes nothing else
pub unlimited : {D : Type 0} (g : Ghosts D) (old new : Held D) → new ≡ record old { step_limit = None } → LeavesTable (state g old) (state g new)
unlimited g old new is = subst (λ h. LeavesTable (state g old) (state g h)) (sym is) (
  λ marks h. record { is_open = h.is_open; schema = h.schema; settled = h.settled; autocommit = h.autocommit; unlimited = refl; table = h.table },
  λ blank. record { is_open = blank.is_open; schema = blank.schema; autocommit = blank.autocommit; unlimited = refl },
)

-- ---- the insert: the place is one above the last

-- the rowid, the place that is kept there alone, and the entry
abbrev terms : List Term
terms = lit Null ∷ lit Null ∷ col 0 0 ∷ []

pub insert_is : command_of (understood marks_schema insert_text) ≡ Insert 0 (given terms 3)
unfolding understood everything
insert_is = refl

pub insert_plain : IsPlain (understood marks_schema insert_text)
unfolding understood everything
insert_plain = (refl, refl)

none_acts : (keys : Keys) (depth tree : ℕ) (olds news : List Values) → works marks_schema keys depth tree olds news ≡ []
none_acts keys depth tree olds news = refl

-- a write to the table is its one step
one_step_of : (keys : Keys) (db next : Trees) (edit : Edit) → Writes marks_schema keys db edit (Ok next) → Applies marks_schema keys db edit next
one_step_of keys db next edit h = one_step marks_schema keys db next edit (none_acts keys 0 edit.table.tree (taken_by db edit) edit.news) h

-- what the insert is given of an entry, before the place is chosen
abbrev unplaced : ℕ → Values
unplaced entry = Null ∷ Null ∷ Int (pos entry) ∷ []

cast_unplaced : (entry : ℕ) → cast_row reported_table (unplaced entry) ≡ unplaced entry
cast_unplaced entry = rw (cast_null, cast_whole entry)

next_from : (place : ℕ) (marks : List ℕ) → fold (λ _ (r : Values). id_in (rowid r) +ℤ pos 1) (pos place) (stored_from place marks) ≡ pos (place + length marks)
next_from place [] = ap pos (let e : place ≡ place + 0 = omega arith in e)
next_from place (entry ∷ marks) = next_from (place + 1) marks ∙ ap pos (let e : place + 1 + length marks ≡ place + length (entry ∷ marks) = omega arith in e)

next_place : (marks : List ℕ) → next_rowid (stored_from 1 marks) ≡ pos (1 + length marks)
next_place marks = next_from 1 marks

put_last : (place n : ℕ) (marks : List ℕ) (entry : ℕ) → n ≡ place + length marks → put_row (stored n entry) (stored_from place marks) ≡ stored_from place (marks ++ entry ∷ [])
put_last place n [] entry h = ap (λ (k : ℕ). stored k entry ∷ []) (let e : n ≡ place = omega (arith, h) in e)
put_last place n (mark ∷ marks) entry h =
    rw (lower place n (omega (arith, h))) (ap (λ (all : List Values). stored place mark ∷ all) (put_last (place + 1) n marks entry (omega (arith, h))))

pub adds : (old new : State) (marks : List ℕ) (entry count : ℕ) → HoldsMarks old marks → new.step_limit ≡ old.step_limit → Executes insert_text (shown_of entry) old new (Ok count) → HoldsMarks new (marks ++ entry ∷ [])
adds old new marks entry count h limit ran =
    let params = shown_of entry in
    let db = old.now.trees in
    let command = Insert 0 (given terms 3) in
    let w = runs_as insert_text params old new marks_schema h.schema command insert_is insert_plain count ran in
    let text = statement_of insert_text (understood marks_schema insert_text) in
    let does = subst (λ s. Does old.step_limit (mode_of old) params (record old.now { schema = s }) text None command (Ok (w.tally, new.now))) h.schema w.changed in
    let done = went (on_table old.step_limit (mode_of old) params (record old.now { schema = marks_schema }) 0 reported_table (λ task. OnRows task (mode_of old) None command db) (Ok (w.tally, new.now)) refl does) in
    let now = ap (λ (p : Tally × Database). p.1) (same_value (went (went done.2).2).2) in
    let source = went done.1 in
    let written = went (went source.2).2 in
    let counted = went written.2 in
    let trees : done.0.trees ≡ written.0 = ap (λ (it : Written). it.trees) (same_value counted.2) ∙ same_value counted.1 in
    let edit = edit_of db reported_table [] Chosen 0 source.0 in
    let step = one_step_of _ db written.0 edit written.1 in
    let place : next_rowid (db 0) ≡ pos (1 + length marks) = ap next_rowid h.table ∙ next_place marks in
    let one : edited db edit ≡ put_row (stored (1 + length marks) entry) (db 0) =
    ap (λ all. edited db (edit_of db reported_table [] Chosen 0 all)) source.1.1
    ∙ ap (λ (r : Values). put_all (without_all (db 0) []) (numbered Chosen (without_all (db 0) []) (r ∷ []))) (cast_unplaced entry)
    ∙ ap (λ z. put_row (Int z ∷ Null ∷ Int (pos entry) ∷ []) (db 0)) place in
    let last : put_row (stored (1 + length marks) entry) (db 0) ≡ stored_from 1 (marks ++ entry ∷ []) = ap (put_row (stored (1 + length marks) entry)) h.table ∙ put_last 1 (1 + length marks) marks entry refl in
    record {
      is_open = w.shown.is_open;
      schema = ap (λ (d : Database). d.schema) now;
      settled = rw h.autocommit at w.shown.committed_is;
      autocommit = w.shown.mode ∙ h.autocommit;
      unlimited = limit ∙ h.unlimited;
      table = ap (λ (d : Database). d.trees 0) now ∙ ap (λ (t : Trees). t 0) trees ∙ step.rows ∙ one ∙ last;
    }

-- ---- the select

abbrev query : Query
query = record {
  from = inner 0 end;
  filter = [];
  group = None;
  project = col 1 2 ∷ [];
  distinct = false;
  collations = [];
  order = (col 1 0, ascending Binary) ∷ [];
  limit = lit (Int (negsuc 0));
  offset = lit (Int (pos 0));
}

pub select_is : (command_of (understood marks_schema select_text) ≡ Select (record { lets = []; body = query }) (codes "entry" ∷ [])) × (reads_listing marks_schema select_text ≡ false)
unfolding understood everything
select_is = (refl, refl)

pub select_plain : IsPlain (understood marks_schema select_text)
unfolding understood everything
select_plain = (refl, refl)

-- what a mark is sorted by, and what it shows
abbrev shown_as : ℕ → ℕ → Output
shown_as place entry = (Int (pos place) ∷ [], shown_of entry)

abbrev outputs_from : ℕ → List ℕ → List Output
outputs_from place [] = []
outputs_from place (entry ∷ marks) = shown_as place entry ∷ outputs_from (place + 1) marks

staged_from : (place : ℕ) (marks : List ℕ) → map (output query) (map (λ (r : Values). [] ∷ r ∷ []) (stored_from place marks)) ≡ outputs_from place marks
staged_from place [] = refl
staged_from place (entry ∷ marks) = ap (λ (rest : List Output). shown_as place entry ∷ rest) (staged_from (place + 1) marks)

parts : (place : ℕ) (marks : List ℕ) → map (λ (o : Output). o.1) (outputs_from place marks) ≡ map shown_of marks
parts place [] = refl
parts place (entry ∷ marks) = ap (λ (rest : List Values). shown_of entry ∷ rest) (parts (place + 1) marks)

above_all : (low place entry : ℕ) (marks : List ℕ) → low < place → AllByRecursion (λ o. output_cmp query (shown_as low entry) o ≡ Less) (outputs_from place marks)
above_all low place entry [] less = tt
above_all low place entry (mark ∷ marks) less = (rw (lower low place less), above_all low (place + 1) entry marks (omega arith))

in_order : (place : ℕ) (marks : List ℕ) → IsAscending (λ a b. output_cmp query a b ≡ Less) (outputs_from place marks)
in_order place [] = tt
in_order place (entry ∷ marks) = (above_all place (place + 1) entry marks (omega arith), in_order (place + 1) marks)

answered : (db : Trees) (marks : List ℕ) (all : List Values) → db 0 ≡ stored_from 1 marks → IsAnswer query (overlay db []) [] all → all ≡ map shown_of marks
answered db marks all holds a =
    let staged : a.staged ≡ map (λ (r : Values). [] ∷ r ∷ []) (stored_from 1 marks) =
    a.grouped ∙ flat_map_single (λ (r : Values). [] ∷ r ∷ []) (overlay db [] 0) ∙ ap (map (λ (r : Values). [] ∷ r ∷ [])) holds in
    let found : a.kept ≡ outputs_from 1 marks = a.distinct ∙ ap (map (output query)) staged ∙ staged_from 1 marks in
    let total = on_total (λ (o : Output). o.0) (key_cmp_total (ascending Binary ∷ []) 0) in
    let ordered : a.ordered ≡ outputs_from 1 marks =
    sorted_unique (output_cmp query) total (outputs_from 1 marks) a.ordered (in_order 1 marks) (subst (λ k. IsPermutation k a.ordered) found a.same) a.sorted in
    a.shown ∙ drop_none (map (λ (o : Output). o.1) a.ordered) ∙ ap (map (λ (o : Output). o.1)) ordered ∙ parts 1 marks

pub gives : (old new : State) (marks : List ℕ) (shown : List Values) → HoldsMarks old marks → new.step_limit ≡ old.step_limit → Shown select_text [] old new shown → (shown ≡ map shown_of marks) × HoldsMarks new marks
gives old new marks shown h limit asked =
    let same = show_changes_nothing select_text [] old new shown (plain_at marks_schema select_text old h.schema select_plain) asked in
    let got = reads_as select_text [] old new marks_schema h.schema _ select_is.0 select_plain select_is.1 shown asked in
    (answered old.now.trees marks shown h.table (got.answer Null), stays old new marks h limit same.0.is_open (inl same))

pub gives_nothing : (old new : State) (marks : List ℕ) (e : Error) → HoldsMarks old marks → new.step_limit ≡ old.step_limit → IsTrue new.is_open → FailsToQuery select_text [] old new e → HoldsMarks new marks
gives_nothing old new marks e h limit is_open failed =
    stays old new marks h limit is_open (query_stays select_text [] old new e (plain_at marks_schema select_text old h.schema select_plain) failed)
