-- What the update does to the table.
use Rattle.std.proofs.Common.{◌≡◌, ◌⊎◌, inl, inr, ℕ, pos, ◌+◌, ◌<◌, ◌≤◌, List, [], ◌∷◌, ◌++◌, map, filter, Bool, true, false, if◌then◌else◌, ◌==◌, ◌&&◌, ◌≢◌, ap₂, Some, None, Ok, refl, sym, ap, subst, ◌∙◌, arith}
use Rattle.std.proofs.lemmas.Bool.{cases_Bool}
use Rattle.std.proofs.lemmas.Int.{ints}
use Rattle.std.proofs.lemmas.Bool.Decides.{nat_tests}
use Rattle.std.specs.declared.cmp.Ordering.TheVariants.{Greater}
use Rattle.std.specs.Ordering.{is_eq}
use Rattle.std.proofs.lemmas.List.Sorted.{length_permutation}
use Rattle.std.specs.List.Sorted.{IsPermutation}
use Rattle.sqlite.specs.declared.types.Value.TheVariants.{Null, Int}
use Rattle.sqlite.specs.Order.{Row as Values}
use Rattle.sqlite_value.specs.Order.{value_cmp}
use Rattle.sqlite_value.proofs.OrderLemmas.{value_cmp-Int}
use Rattle.sqlite.specs.Term.{Env}
use Rattle.sqlite.specs.Ops.{binary, is_true, from_truth}
use Rattle.sqlite.specs.Command.TheVariants.{Update}
use Rattle.sqlite.specs.Collation.TheVariants.{Binary}
use Rattle.sqlite.specs.Query.{inner, end, IsAnswer, output, Output, matches_as, page}
use Rattle.sqlite.specs.Program.{overlay}
use Rattle.sqlite_sql.specs.declared.ops.BinaryOp.TheVariants.{Compare}
use Rattle.sqlite_sql.specs.declared.ops.CompareOp.TheVariants.{Eq}
use Rattle.sqlite.specs.Edit.{edit_of, edited, put_all, numbered}
use Rattle.sqlite_rules.specs.Calls.{ids_of}
use Rattle.sqlite.specs.Tree.{Trees, put_row, without_rowid}
use Rattle.sqlite.specs.Rowids.TheVariants.{Given}
use Rattle.sqlite.specs.Table.{Table}
use Rattle.sqlite.specs.Does.{Tally, Does, OnRows}
use Rattle.sqlite.specs.Rows.{Written}
use Rattle.sqlite.specs.Listing.{understood}
use Rattle.sqlite.specs.Effect.{Database}
use Rattle.sqlite.specs.State.{State, mode_of, Executes}
use Rattle.sqlite.proofs.Callers.{statement_of, runs_as, one_permutation}
use Rattle.history_keeper.specs.declared.row.Row.{Row}
use Rattle.history_keeper.specs.declared.row.RowState.{RowState}
use Rattle.history_keeper.specs.Changes.{with_state}
use Rattle.history_sqlite.specs.Causes.{update_text}
use Rattle.history_sqlite.specs.Columns.{values_of}
use Rattle.history_sqlite.specs.Tables.{Layout, history_schema, rows_tree, stored, AreNumbered, HoldsRows}
use Rattle.history_sqlite.proofs.Effects.{went, same_value, on_table}
use Rattle.history_sqlite.proofs.Layouts.{rows_place, rows_table, rows_there, one_step_of, first_table, apart, overlaid, changing, update_is, update_plain}
use Rattle.history_sqlite.proofs.Inserting.{lower, cast_stored}

pub truth_of : (x : Bool) → is_true (from_truth (Some x)) ≡ x
truth_of true = refl
truth_of false = refl

eq_entry : (a b : ℕ) → is_eq (value_cmp (Int (pos a)) (Int (pos b))) ≡ (a == b)
eq_entry a b = ap is_eq (value_cmp-Int (pos a) (pos b)) ∙ grind (arith, ints, nat_tests)

same_entry : (a b : ℕ) → is_true (binary (Compare Eq Binary) (Int (pos a)) (Int (pos b))) ≡ (a == b)
unfolding binary
same_entry a b = truth_of (is_eq (value_cmp (Int (pos a)) (Int (pos b)))) ∙ eq_entry a b

higher : (m n : ℕ) → n < m → value_cmp (Int (pos m)) (Int (pos n)) ≡ Greater
higher m n h = value_cmp-Int (pos m) (pos n) ∙ grind (arith, ints, nat_tests)

none_left : {X : Type 0} (ys : List X) → IsPermutation [] ys → ys ≡ []
none_left [] same = refl
none_left (y ∷ ys) same = absurd (omega (arith, length_permutation [] (y ∷ ys) same))

module _ (layout : Layout) (entry : ℕ) (state : RowState) (reason time : ℕ) where
  abbrev tree : ℕ
  tree = rows_tree layout

  abbrev table : Table
  table = rows_table layout

  abbrev values : Values
  values = values_of entry state reason time

  abbrev is_it : Row → Bool
  is_it row = row.entry == entry

  abbrev turned : Row → Row
  turned row = record row { state = state; reason = reason; time_changed = time }

  abbrev env : Row → Env
  env row = values ∷ stored row ∷ []

  matched : (rows : List Row) → matches_as Null (λ t. map stored rows) (changing tree).filter (inner tree end) (values ∷ []) ≡ map env (filter is_it rows)
  matched [] = refl
  matched (row ∷ rows) =
      ap₂ ◌++◌ (ap (λ b. if b && true then env row ∷ [] else []) (same_entry row.entry entry)) (matched rows) ∙ cases (is_it row)
    where
      cases : (b : Bool) → (if b && true then env row ∷ [] else []) ++ map env (filter is_it rows) ≡ map env (if b then row ∷ filter is_it rows else filter is_it rows)
      cases true = refl
      cases false = refl

  differs : (a : ℕ) → a ≢ entry → (a == entry) ≡ false
  differs a h = grind (arith, nat_tests)

  past : (from : ℕ) (rows : List Row) → entry < from → AreNumbered from rows
      → (filter is_it rows ≡ []) × (without_rowid (pos entry) (map stored rows) ≡ map stored rows) × (map (with_state entry state reason time) rows ≡ rows)
  past from [] low numbered = (refl, refl, refl)
  past from (row ∷ rows) low numbered =
      let misses : (row.entry == entry) ≡ false = differs row.entry (λ e. omega (arith, e, numbered.0)) in
      let has = eq_entry row.entry entry ∙ misses in
      let rest = past (from + 1) rows (omega arith) numbered.1 in (
        rw misses rest.0,
        rw has (ap (λ l. stored row ∷ l) rest.1),
        rw misses (ap (λ l. row ∷ l) rest.2),
      )

  front : (from : ℕ) (new : Row) (rows : List Row) → new.entry < from → AreNumbered from rows → put_row (stored new) (map stored rows) ≡ stored new ∷ map stored rows
  front from new [] low numbered = refl
  front from new (row ∷ rows) low numbered = rw (higher row.entry new.entry (omega (arith, numbered.0)))

  pub record IsHit (from : ℕ) (rows : List Row) : Type 0 where
    pub row : Row
    pub found : filter is_it rows ≡ row ∷ []
    pub is : row.entry ≡ entry
    pub late : from ≤ entry
    pub put : put_row (stored (turned row)) (without_rowid (pos entry) (map stored rows)) ≡ map stored (map (with_state entry state reason time) rows)

  replaced : (from : ℕ) (rows : List Row) → AreNumbered from rows → ((filter is_it rows ≡ []) × (map (with_state entry state reason time) rows ≡ rows)) ⊎ IsHit from rows
  replaced from [] numbered = inl (refl, refl)
  replaced from (row ∷ rows) numbered = elim (cases_Bool (is_it row)) [
    | inl hits ↦ (
        let is : row.entry ≡ entry = grind (arith, nat_tests) in
        let rest = past (from + 1) rows (omega (arith, is, numbered.0)) numbered.1 in
        let has = eq_entry row.entry entry ∙ hits in
        inr (record {
          row = row;
          found = rw hits (ap (λ l. row ∷ l) rest.0);
          is = is;
          late = omega (arith, is, numbered.0);
          put = rw (has, hits) (ap (put_row (stored (turned row))) rest.1 ∙ front (from + 1) (turned row) rows (omega (arith, numbered.0)) numbered.1 ∙ ap (λ l. stored (turned row) ∷ map stored l) (sym rest.2));
        })
        )
    | inr misses ↦ elim (replaced (from + 1) rows numbered.1) [
      | inl none ↦ inl (rw misses none.0, rw misses (ap (λ l. row ∷ l) none.1))
      | inr hit ↦ (
          let has = eq_entry row.entry entry ∙ misses in
          let below = lower row.entry hit.row.entry (omega (arith, numbered.0, hit.is, hit.late)) in
          inr (record {
            row = hit.row;
            found = rw misses hit.found;
            is = hit.is;
            late = omega (arith, hit.late);
            put = rw (has, misses) (rw below (ap (λ l. stored row ∷ l) hit.put));
          })
          )
    ]
  ]

  renumbered : (from : ℕ) (rows : List Row) → AreNumbered from rows → AreNumbered from (map (with_state entry state reason time) rows)
  renumbered from [] numbered = tt
  renumbered from (row ∷ rows) numbered = (kept (is_it row) ∙ numbered.0, renumbered (from + 1) rows numbered.1)
    where
      kept : (b : Bool) → (let it : Row = if b then turned row else row in it.entry) ≡ row.entry
      kept true = refl
      kept false = refl

  -- what the edit makes of the table
  abbrev after : Trees → List Values → List Values
  after db found = edited db (edit_of db table (ids_of found) Given 1 found)

  abbrev projected : Row → Values
  projected row = Int (pos row.entry) ∷ stored (turned row)

  edits : (db : Trees) (rows : List Row) (found : List Values) → db tree ≡ map stored rows → AreNumbered 1 rows → IsAnswer (changing tree) (overlay db []) values found
      → after db found ≡ map stored (map (with_state entry state reason time) rows)
  edits db rows found holds in_turn a = elim (replaced 1 rows in_turn) [
    | inl none ↦ (
        let kept : a.kept ≡ [] = a.distinct ∙ ap (map (output (changing tree))) (staged ∙ ap (map env) none.0) in
        let ordered = none_left a.ordered (subst (λ k. IsPermutation k a.ordered) kept a.same) in
        let nothing : found ≡ [] = a.shown ∙ ap (λ xs. page (changing tree) values (map (λ (p : Output). p.1) xs)) ordered in
        ap (after db) nothing ∙ holds ∙ ap (map stored) (sym none.1)
        )
    | inr hit ↦ (
        let o : Output = ([], projected hit.row) in
        let kept : a.kept ≡ o ∷ [] = a.distinct ∙ ap (map (output (changing tree))) (staged ∙ ap (map env) hit.found) in
        let ordered = one_permutation o a.ordered (subst (λ k. IsPermutation k a.ordered) kept a.same) in
        let one : found ≡ projected hit.row ∷ [] = a.shown ∙ ap (λ xs. page (changing tree) values (map (λ (p : Output). p.1) xs)) ordered in
        ap (after db) one ∙ ap (λ (r : Values). put_all (without_rowid (pos hit.row.entry) (db tree)) (numbered_by hit.row r)) (cast_stored layout (turned hit.row))
        ∙ ap₂ (λ n all. put_row (stored (turned hit.row)) (without_rowid (pos n) all)) hit.is holds ∙ hit.put
        )
  ]
    where
      staged : a.staged ≡ map env (filter is_it rows)
      staged = a.grouped ∙ ap (λ all. matches_as Null (λ t. all) (changing tree).filter (inner tree end) (values ∷ [])) (overlaid layout db ∙ holds) ∙ matched rows

      numbered_by : Row → Values → List Values
      numbered_by row r = numbered Given (without_rowid (pos row.entry) (db tree)) (r ∷ [])

  pub record IsAdvanced (old new : State) (rows : List Row) : Type 0 where
    pub schema : new.now.schema ≡ history_schema layout
    pub number : new.now.trees 0 ≡ old.now.trees 0
    pub table : new.now.trees tree ≡ map stored (map (with_state entry state reason time) rows)

  moves : (old new : State) (rows : List Row) (count : ℕ) → old.now.schema ≡ history_schema layout → old.now.trees tree ≡ map stored rows → AreNumbered 1 rows
      → Executes update_text values old new (Ok count) → IsAdvanced old new rows
  moves old new rows count has holds in_turn ran =
      let db = old.now.trees in
      let schema = history_schema layout in
      let command = Update (rows_place layout) (record { lets = []; body = changing tree }) in
      let w = runs_as update_text values old new schema has command (update_is layout) (update_plain layout) count ran in
      let text = statement_of update_text (understood schema update_text) in
      let does = subst (λ s. Does old.step_limit (mode_of old) values (record old.now { schema = s }) text None command (Ok (w.tally, new.now))) has w.changed in
      let done = went (on_table old.step_limit (mode_of old) values (record old.now { schema = schema }) (rows_place layout) table (λ task. OnRows task (mode_of old) None command db) (Ok (w.tally, new.now)) (rows_there layout) does) in
      let now = ap (λ (p : Tally × Database). p.1) (same_value (went (went done.2).2).2) in
      let asked = went done.1 in
      let written = went asked.2 in
      let trees : done.0.trees ≡ written.0 = ap (λ (it : Written). it.trees) (same_value written.2) in
      let step = one_step_of layout _ db written.0 (edit_of db table (ids_of asked.0) Given 1 asked.0) written.1 in
      let other : written.0 0 ≡ db 0 = first_table layout _ step.tables (apart layout) in
      record {
        schema = ap (λ (d : Database). d.schema) now;
        number = ap (λ (d : Database). d.trees 0) now ∙ ap (λ (t : Trees). t 0) trees ∙ other;
        table = ap (λ (d : Database). d.trees tree) now ∙ ap (λ (t : Trees). t tree) trees ∙ step.rows ∙ edits db rows asked.0 holds in_turn (asked.1.answer Null);
      }

pub advances : (entry : ℕ) (state : RowState) (reason time : ℕ) (old new : State) (rows : List Row) (count : ℕ) → HoldsRows old rows → new.step_limit ≡ old.step_limit
    → Executes update_text (values_of entry state reason time) old new (Ok count) → HoldsRows new (map (with_state entry state reason time) rows)
advances entry state reason time old new rows count h limit ran =
    let layout = h.layout in
    let command = Update (rows_place layout) (record { lets = []; body = changing (rows_tree layout) }) in
    let w = runs_as update_text (values_of entry state reason time) old new (history_schema layout) h.schema command (update_is layout) (update_plain layout) count ran in
    let moved = moves layout entry state reason time old new rows count h.schema h.table h.entries ran in
    record {
      layout = layout;
      is_open = w.shown.is_open;
      schema = moved.schema;
      settled = rw h.autocommit at w.shown.committed_is;
      autocommit = w.shown.mode ∙ h.autocommit;
      unlimited = limit ∙ h.unlimited;
      number = (h.number.0, moved.number ∙ h.number.1);
      table = moved.table;
      entries = renumbered layout entry state reason time 1 rows h.entries;
    }
