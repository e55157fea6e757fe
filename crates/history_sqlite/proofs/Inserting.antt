-- What the insert does to the table.
use Rattle.std.proofs.Common.{◌≡◌, ℕ, pos, ◌+◌, ◌<◌, List, [], ◌∷◌, ◌++◌, length, map, Bool, true, false, cond, None, Some, Option, Ok, refl, sym, ap, subst, ◌∙◌, arith}
use Rattle.std.proofs.lemmas.List.{map-append}
use Rattle.std.proofs.lemmas.Int.{ints}
use Rattle.std.proofs.lemmas.Bool.Decides.{nat_tests}
use Rattle.std.specs.declared.cmp.Ordering.TheVariants.{Less}
use Rattle.sqlite.specs.declared.types.Value.{Value}
use Rattle.sqlite.specs.declared.types.Value.TheVariants.{Null, Int, Text}
use Rattle.sqlite.specs.Values.{or_null}
use Rattle.sqlite.specs.Order.{Row as Values}
use Rattle.sqlite_value.specs.Order.{value_cmp}
use Rattle.sqlite_value.proofs.OrderLemmas.{value_cmp-Int}
use Rattle.sqlite.specs.Ops.{unary}
use Rattle.sqlite.specs.Kind.TheVariants.{Integer, Text as Words}
use Rattle.sqlite.specs.Source.TheVariants.{Values as given}
use Rattle.sqlite.specs.Command.TheVariants.{Insert}
use Rattle.sqlite.specs.Edit.{edit_of, edited, put_all, without_all, numbered}
use Rattle.sqlite.specs.Tree.{Trees, put_row}
use Rattle.sqlite.specs.Cast.{cast, cast_row}
use Rattle.sqlite.specs.Rowids.TheVariants.{Chosen}
use Rattle.sqlite.specs.Does.{Tally, Does, OnRows}
use Rattle.sqlite.specs.Rows.{Written}
use Rattle.sqlite.specs.Listing.{understood}
use Rattle.sqlite.specs.Effect.{Database}
use Rattle.sqlite.specs.State.{State, mode_of, Executes}
use Rattle.sqlite.proofs.Callers.{statement_of, runs_as}
use Rattle.history_keeper.specs.declared.row.Row.{Row}
use Rattle.history_sqlite.specs.Causes.{insert_text}
use Rattle.history_sqlite.specs.Columns.{columns_of, state_number}
use Rattle.history_sqlite.specs.Tables.{Layout, history_schema, rows_tree, stored, AreNumbered, HoldsRows}
use Rattle.history_sqlite.proofs.Effects.{went, same_value, on_table}
use Rattle.history_sqlite.proofs.Layouts.{rows_place, rows_table, rows_there, one_step_of, first_table, apart, terms, insert_is, insert_plain}

pub either : (b : Bool) (x : Value) → cond b x x ≡ x
either true x = refl
either false x = refl

pub cast_null : cast Integer Null ≡ Null
unfolding unary
cast_null = either _ Null

pub cast_whole : (n : ℕ) → cast Integer (Int (pos n)) ≡ Int (pos n)
unfolding unary
cast_whole n = either _ (Int (pos n))

cast_text : (text : Option (List ℕ)) → cast Words (or_null Text text) ≡ or_null Text text
cast_text None = refl
cast_text (Some t) = refl

cast_link : (link : Option ℕ) → cast Integer (or_null (λ n. Int (pos n)) link) ≡ or_null (λ n. Int (pos n)) link
cast_link None = cast_null
cast_link (Some n) = cast_whole n

pub cast_stored : (layout : Layout) (row : Row) → cast_row (rows_table layout) (stored row) ≡ stored row
cast_stored layout row =
    rw (
      cast_null,
      cast_whole row.entry,
      cast_whole row.client,
      cast_whole row.flags,
      cast_whole (state_number row.state),
      cast_whole row.reason,
      cast_whole row.time_added,
      cast_whole row.time_changed,
      cast_whole row.duration,
      cast_text row.protocol,
      cast_link row.retry_of,
    )

pub lower : (m n : ℕ) → m < n → value_cmp (Int (pos m)) (Int (pos n)) ≡ Less
lower m n h = value_cmp-Int (pos m) (pos n) ∙ grind (arith, ints, nat_tests)

pub put_last : (from : ℕ) (new : Row) (rows : List Row) → new.entry ≡ from + length rows → AreNumbered from rows → put_row (stored new) (map stored rows) ≡ map stored rows ++ stored new ∷ []
put_last from new [] next low = refl
put_last from new (row ∷ rows) next low =
    rw (lower row.entry new.entry (omega (arith, low.0, next))) (ap (λ all. stored row ∷ all) (put_last (from + 1) new rows (omega (arith, next)) low.1))

pub more : (from : ℕ) (rows : List Row) (row : Row) → row.entry ≡ from + length rows → AreNumbered from rows → AreNumbered from (rows ++ row ∷ [])
more from [] row last low = (omega (arith, last), tt)
more from (first ∷ rows) row last low = (low.0, more (from + 1) rows row (omega (arith, last)) low.1)

-- The row stands behind the others, and nothing else is changed.
pub record IsPut (layout : Layout) (old new : State) (rows : List Row) : Type 0 where
  pub schema : new.now.schema ≡ history_schema layout
  pub number : new.now.trees 0 ≡ old.now.trees 0
  pub table : new.now.trees (rows_tree layout) ≡ map stored rows
  pub entries : AreNumbered 1 rows

pub puts : (layout : Layout) (old new : State) (rows : List Row) (row : Row) (count : ℕ) → old.now.schema ≡ history_schema layout → old.now.trees (rows_tree layout) ≡ map stored rows → AreNumbered 1 rows
    → row.entry ≡ length rows + 1 → Executes insert_text (columns_of row) old new (Ok count) → IsPut layout old new (rows ++ row ∷ [])
puts layout old new rows row count has holds in_turn next ran =
    let params = columns_of row in
    let db = old.now.trees in
    let schema = history_schema layout in
    let tree = rows_tree layout in
    let table = rows_table layout in
    let command = Insert (rows_place layout) (given terms 17) in
    let w = runs_as insert_text params old new schema has command (insert_is layout) (insert_plain layout) count ran in
    let text = statement_of insert_text (understood schema insert_text) in
    let does = subst (λ s. Does old.step_limit (mode_of old) params (record old.now { schema = s }) text None command (Ok (w.tally, new.now))) has w.changed in
    let done = went (on_table old.step_limit (mode_of old) params (record old.now { schema = schema }) (rows_place layout) table (λ task. OnRows task (mode_of old) None command db) (Ok (w.tally, new.now)) (rows_there layout) does) in
    let now = ap (λ (p : Tally × Database). p.1) (same_value (went (went done.2).2).2) in
    let source = went done.1 in
    let written = went (went source.2).2 in
    let counted = went written.2 in
    let trees : done.0.trees ≡ written.0 = ap (λ (it : Written). it.trees) (same_value counted.2) ∙ same_value counted.1 in
    let step = one_step_of layout _ db written.0 (edit_of db table [] Chosen 0 source.0) written.1 in
    let other : written.0 0 ≡ db 0 = first_table layout _ step.tables (apart layout) in
    let one : edited db (edit_of db table [] Chosen 0 source.0) ≡ put_row (stored row) (db tree) =
    ap (λ all. edited db (edit_of db table [] Chosen 0 all)) source.1.1 ∙ ap (λ (r : Values). put_all (without_all (db tree) []) (numbered Chosen (without_all (db tree) []) (r ∷ []))) (cast_stored layout row) in
    let last : put_row (stored row) (db tree) ≡ map stored (rows ++ row ∷ []) =
    ap (put_row (stored row)) holds ∙ put_last 1 row rows (omega (arith, next)) in_turn ∙ sym (map-append stored rows (row ∷ [])) in
    record {
      schema = ap (λ (d : Database). d.schema) now;
      number = ap (λ (d : Database). d.trees 0) now ∙ ap (λ (t : Trees). t 0) trees ∙ other;
      table = ap (λ (d : Database). d.trees tree) now ∙ ap (λ (t : Trees). t tree) trees ∙ step.rows ∙ one ∙ last;
      entries = more 1 rows row (omega (arith, next)) in_turn;
    }

pub adds : (old new : State) (rows : List Row) (row : Row) (count : ℕ) → HoldsRows old rows → row.entry ≡ length rows + 1 → new.step_limit ≡ old.step_limit
    → Executes insert_text (columns_of row) old new (Ok count) → HoldsRows new (rows ++ row ∷ [])
adds old new rows row count h next limit ran =
    let w = runs_as insert_text (columns_of row) old new (history_schema h.layout) h.schema (Insert (rows_place h.layout) (given terms 17)) (insert_is h.layout) (insert_plain h.layout) count ran in
    let put = puts h.layout old new rows row count h.schema h.table h.entries next ran in
    record {
      layout = h.layout;
      is_open = w.shown.is_open;
      schema = put.schema;
      settled = rw h.autocommit at w.shown.committed_is;
      autocommit = w.shown.mode ∙ h.autocommit;
      unlimited = limit ∙ h.unlimited;
      number = (h.number.0, put.number ∙ h.number.1);
      table = put.table;
      entries = put.entries;
    }
