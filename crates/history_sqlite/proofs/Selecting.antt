-- What the selects show.
use Rattle.std.proofs.Common.{◌≡◌, inl, ℕ, pos, ◌+◌, ◌<◌, List, [], ◌∷◌, map, drop, IsTrue, refl, ap, subst, ◌∙◌, arith}
use Rattle.std.specs.declared.cmp.Ordering.TheVariants.{Less}
use Rattle.sqlite.specs.declared.types.Value.TheVariants.{Null, Int}
use Rattle.sqlite.specs.Order.{Row as Values}
use Rattle.sqlite.specs.Term.{Term}
use Rattle.sqlite.specs.Collation.TheVariants.{Binary}
use Rattle.sqlite.specs.Query.{Query, IsAnswer, output, output_cmp, Output}
use Rattle.sqlite.specs.Program.{overlay}
use Rattle.sqlite_value.specs.Keys.{ascending}
use Rattle.sqlite_sql.proofs.QueryLemmas.{key_cmp_total}
use Rattle.sqlite_keyed.proofs.SortLemmas.{sorted_unique}
use Rattle.std.proofs.lemmas.Cmp.{on_total}
use Rattle.std.proofs.lemmas.List.Concat.{flat_map_single}
use Rattle.std.specs.List.{AllByRecursion}
use Rattle.std.specs.List.Sorted.{IsPermutation}
use Rattle.sqlite.specs.Tree.{Trees, IsAscending}
use Rattle.sqlite.specs.declared.error.Error.{Error}
use Rattle.sqlite.specs.State.{State, Shown, FailsToQuery, CommitsShowing, Survives}
use Rattle.sqlite.proofs.Callers.{reads_as, never_commits}
use Rattle.sqlite.proofs.StateLemmas.{survives_weaker}
use Rattle.history_keeper.specs.declared.row.Row.{Row}
use Rattle.history_sqlite.specs.Causes.{select_text, older_select_text}
use Rattle.history_sqlite.specs.Columns.{columns_of, older_columns_of}
use Rattle.history_sqlite.specs.Tables.{history_schema, older_schema, rows_tree, stored, older_stored, AreNumbered, HoldsRows, HoldsOlderRows, TakesAll}
use Rattle.history_sqlite.proofs.Effects.{stays, older_stays, show_changes_nothing, query_stays, plain_at}
use Rattle.history_sqlite.proofs.Layouts.{overlaid, query_of, project, older_project, select_is, select_plain, older_select_is, older_select_plain}
use Rattle.history_sqlite.proofs.Inserting.{lower}

pub drop_none : {X : Type 0} (xs : List X) → drop 0 xs ≡ xs
drop_none [] = refl
drop_none (x ∷ xs) = refl

-- A query that shows these columns of rows that are kept so, by their entries.
module _ (tree : ℕ) (overlaid_is : (db : Trees) → overlay db [] tree ≡ db tree) (terms : List Term) (kept shown : Row → Values)
    (output_is : (row : Row) → output (query_of tree terms) ([] ∷ kept row ∷ []) ≡ (Int (pos row.entry) ∷ [], shown row)) where
  abbrev pub query : Query
  query = query_of tree terms

  -- what a row is sorted by, and what it shows
  abbrev pub shown_as : Row → Output
  shown_as row = (Int (pos row.entry) ∷ [], shown row)

  outputs : (rows : List Row) → map (output query) (map (λ (r : Values). [] ∷ r ∷ []) (map kept rows)) ≡ map shown_as rows
  outputs [] = refl
  outputs (row ∷ rows) = rw (output_is row, outputs rows)

  pub parts : (rows : List Row) → map (λ (o : Output). o.1) (map shown_as rows) ≡ map shown rows
  parts [] = refl
  parts (row ∷ rows) = ap (λ l. shown row ∷ l) (parts rows)

  above_all : (a : Row) (from : ℕ) (rows : List Row) → a.entry < from → AreNumbered from rows → AllByRecursion (λ b. output_cmp query (shown_as a) b ≡ Less) (map shown_as rows)
  above_all a from [] low numbered = tt
  above_all a from (b ∷ rows) low numbered = (
    rw (lower a.entry b.entry (omega (arith, numbered.0))),
    above_all a (from + 1) rows (omega arith) numbered.1,
  )

  pub in_order : (from : ℕ) (rows : List Row) → AreNumbered from rows → IsAscending (λ a b. output_cmp query a b ≡ Less) (map shown_as rows)
  in_order from [] numbered = tt
  in_order from (row ∷ rows) numbered = (above_all row (from + 1) rows (omega (arith, numbered.0)) numbered.1, in_order (from + 1) rows numbered.1)

  answered : (db : Trees) (rows : List Row) (all : List Values) → db tree ≡ map kept rows → AreNumbered 1 rows → IsAnswer query (overlay db []) [] all → all ≡ map shown rows
  answered db rows all holds in_turn a =
      let staged : a.staged ≡ map (λ (r : Values). [] ∷ r ∷ []) (map kept rows) =
      a.grouped ∙ flat_map_single (λ (r : Values). [] ∷ r ∷ []) (overlay db [] tree) ∙ ap (map (λ (r : Values). [] ∷ r ∷ [])) (overlaid_is db ∙ holds) in
      let found : a.kept ≡ map shown_as rows = a.distinct ∙ ap (map (output query)) staged ∙ outputs rows in
      let total = on_total (λ (o : Output). o.0) (key_cmp_total (ascending Binary ∷ []) 0) in
      let ordered : a.ordered ≡ map shown_as rows =
      sorted_unique (output_cmp query) total (map shown_as rows) a.ordered (in_order 1 rows in_turn) (subst (λ k. IsPermutation k a.ordered) found a.same) a.sorted in
      a.shown ∙ drop_none (map (λ (o : Output). o.1) a.ordered) ∙ ap (map (λ (o : Output). o.1)) ordered ∙ parts rows

pub shows : (old new : State) (rows : List Row) (shown : List Values) → HoldsRows old rows → Shown select_text [] old new shown → shown ≡ map columns_of rows
shows old new rows shown h asked =
    let is = select_is h.layout in
    let got = reads_as select_text [] old new (history_schema h.layout) h.schema _ is.0 (select_plain h.layout) is.1 shown asked in
    answered (rows_tree h.layout) (overlaid h.layout) project stored columns_of (λ row. refl) old.now.trees rows shown h.table h.entries (got.answer Null)

pub gives : (old new : State) (rows : List Row) (shown : List Values) → HoldsRows old rows → new.step_limit ≡ old.step_limit → Shown select_text [] old new shown
    → (shown ≡ map columns_of rows) × HoldsRows new rows
gives old new rows shown h limit asked =
    let same = show_changes_nothing select_text [] old new shown (plain_at (history_schema h.layout) select_text old h.schema (select_plain h.layout)) asked in
    (shows old new rows shown h asked, stays old new rows h limit same.0.is_open (inl same))

pub gives_nothing : (old new : State) (rows : List Row) (e : Error) → HoldsRows old rows → new.step_limit ≡ old.step_limit → IsTrue new.is_open → FailsToQuery select_text [] old new e → HoldsRows new rows
gives_nothing old new rows e h limit is_open failed =
    stays old new rows h limit is_open (query_stays select_text [] old new e (plain_at (history_schema h.layout) select_text old h.schema (select_plain h.layout)) failed)

-- ---- the rows of schema 1

pub older_shows : (old new : State) (rows : List Row) (shown : List Values) → HoldsOlderRows old rows → Shown older_select_text [] old new shown → shown ≡ map older_columns_of rows
older_shows old new rows shown h asked =
    let got = reads_as older_select_text [] old new older_schema h.schema _ older_select_is.0 older_select_plain older_select_is.1 shown asked in
    answered 1 (λ db. refl) older_project older_stored older_columns_of (λ row. refl) old.now.trees rows shown h.table h.entries (got.answer Null)

pub older_gives : (old new : State) (rows : List Row) (shown : List Values) → HoldsOlderRows old rows → new.step_limit ≡ old.step_limit → Shown older_select_text [] old new shown
    → (shown ≡ map older_columns_of rows) × HoldsOlderRows new rows
older_gives old new rows shown h limit asked =
    let same = show_changes_nothing older_select_text [] old new shown (plain_at older_schema older_select_text old h.schema older_select_plain) asked in
    (older_shows old new rows shown h asked, older_stays old new rows h limit same.0.is_open (inl same))

pub older_gives_nothing : (old new : State) (rows : List Row) (e : Error) → HoldsOlderRows old rows → new.step_limit ≡ old.step_limit → IsTrue new.is_open → FailsToQuery older_select_text [] old new e → HoldsOlderRows new rows
older_gives_nothing old new rows e h limit is_open failed =
    older_stays old new rows h limit is_open (query_stays older_select_text [] old new e (plain_at older_schema older_select_text old h.schema older_select_plain) failed)

-- the select of the older rows writes nothing
pub asks_only : (old new : State) → Survives old new (CommitsShowing older_select_text [] old) → Survives old new (TakesAll old)
asks_only old new = survives_weaker old new (CommitsShowing older_select_text [] old) (TakesAll old)
    (λ clean db commits rows h. absurd (never_commits older_select_text [] old db (plain_at older_schema older_select_text old h.schema older_select_plain) commits))
