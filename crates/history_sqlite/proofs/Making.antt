-- What the making of the tables does.
use Rattle.std.proofs.Common.{◌≡◌, ℕ, pos, List, [], ◌∷◌, map, drop, false, None, Ok, refl, sym, ap, subst, ◌∙◌, arith}
use Rattle.sqlite.specs.declared.types.Value.TheVariants.{Null, Int}
use Rattle.sqlite.specs.Term.{Term, lit}
use Rattle.sqlite.specs.Source.TheVariants.{Values as given}
use Rattle.sqlite.specs.Command.TheVariants.{Insert, CreateTable}
use Rattle.sqlite.specs.Compile.{table_defined_by}
use Rattle.sqlite.specs.Edit.{edit_of, edited, put_all, without_all, numbered}
use Rattle.sqlite.specs.Cast.{cast_row}
use Rattle.sqlite.specs.Order.{Row as Values}
use Rattle.sqlite.specs.Tree.{Trees}
use Rattle.sqlite.specs.Rowids.TheVariants.{Chosen}
use Rattle.sqlite.specs.Table.{Table}
use Rattle.sqlite.specs.Schema.{Schema}
use Rattle.sqlite.specs.Change.{created, next_tree, KeepsRows}
use Rattle.sqlite.specs.Does.{Tally, Does, lacks_sequence}
use Rattle.sqlite.specs.Rows.{Written}
use Rattle.sqlite_tied.specs.Compute.{everything}
use Rattle.sqlite.specs.Listing.{understood}
use Rattle.sqlite.specs.Effect.{Database}
use Rattle.sqlite.specs.State.{State, mode_of, Writes, Executes, Shows}
use Rattle.sqlite.proofs.Callers.{IsPlain, command_of, statement_of, runs_as}
use Rattle.history_sqlite.specs.Finding.{fill_number_text}
use Rattle.history_sqlite.specs.Tables.{create_schema_text, create_history_text, Layout, schema_table, history_table, no_schema, history_schema, schema_number, IsNumbered, HoldsRows}
use Rattle.history_sqlite.proofs.Effects.{went, same_value, schema_made, history_made}
use Rattle.history_sqlite.proofs.Inserting.{cast_null, cast_whole}
use Rattle.history_sqlite.proofs.Layouts.{one_step_of}

-- a table that is made
module _ (before : Schema) (text : List ℕ) (made : Table) (is : command_of (understood before text) ≡ CreateTable) (whole : statement_of text (understood before text) ≡ text)
    (plain : IsPlain (understood before text)) (defined : table_defined_by text ≡ Ok made) (lacks : lacks_sequence (created before made) ≡ false) where
  pub create_does : (old : State) (tally : Tally) (after : Database) → old.now.schema ≡ before → Does old.step_limit (mode_of old) [] old.now text None CreateTable (Ok (tally, after))
      → (after.schema ≡ created before made) × (after.trees (next_tree before) ≡ []) × KeepsRows before.tables old.now.trees after.trees
  create_does old tally after has changed =
      let all = went changed in
      let first = went all.1 in
      let it = first.1 in
      let both : Ok it.table ≡ Ok made = sym it.defined ∙ defined in
      let same : it.table ≡ made = cc in
      let schema : first.0.schema ≡ created before made = it.is ∙ ap (λ s. created s it.table) has ∙ ap (created before) same in
      let none : lacks_sequence first.0.schema ≡ false = ap lacks_sequence schema ∙ lacks in
      let now : after ≡ first.0 = ap (λ (p : Tally × Database). p.1) (same_value all.2) ∙ same_value (rw none at first.2) in (
        ap (λ (d : Database). d.schema) now ∙ schema,
        ap (λ (d : Database). d.trees (next_tree before)) now ∙ subst (λ s. first.0.trees (next_tree s) ≡ []) has it.empty,
        subst (λ (d : Database). KeepsRows before.tables old.now.trees d.trees) (sym now) (subst (λ (s : Schema). KeepsRows s.tables old.now.trees first.0.trees) has it.others),
      )

  pub creates : (old new : State) (count : ℕ) → old.now.schema ≡ before → Executes text [] old new (Ok count)
      → (new.now.schema ≡ created before made) × (new.now.trees (next_tree before) ≡ []) × KeepsRows before.tables old.now.trees new.now.trees
  creates old new count has h =
      let w = subst (λ t. Writes old new None CreateTable t [] count) whole (runs_as text [] old new before has CreateTable is plain count h) in create_does old w.tally new.now has w.changed

first_is : (command_of (understood no_schema create_schema_text) ≡ CreateTable) × (statement_of create_schema_text (understood no_schema create_schema_text) ≡ create_schema_text)
unfolding understood everything
first_is = (refl, refl)

first_plain : IsPlain (understood no_schema create_schema_text)
unfolding understood everything
first_plain = (refl, refl)

abbrev one_table : Schema
one_table = created no_schema schema_table

second_is : (command_of (understood one_table create_history_text) ≡ CreateTable) × (statement_of create_history_text (understood one_table create_history_text) ≡ create_history_text)
unfolding understood everything
second_is = (refl, refl)

second_plain : IsPlain (understood one_table create_history_text)
unfolding understood everything
second_plain = (refl, refl)

abbrev made_anew : Schema
made_anew = history_schema Layout.Anew

abbrev terms : List Term
terms = lit Null ∷ lit (Int (pos 2)) ∷ []

number_is : command_of (understood made_anew fill_number_text) ≡ Insert 0 (given terms 2)
unfolding understood everything
number_is = refl

number_plain : IsPlain (understood made_anew fill_number_text)
unfolding understood everything
number_plain = (refl, refl)

-- the number as it is given, and as it is stored
abbrev given_row : Values
given_row = Null ∷ Int (pos 2) ∷ []

abbrev put_in : List Values → List Values → List Values
put_in rows all = put_all (without_all rows []) (numbered Chosen (without_all rows []) (map (λ (r : Values). cast_row schema_table (drop 0 r)) all))

put_number : put_in [] (given_row ∷ []) ≡ (Int (pos 1) ∷ Int (pos 2) ∷ []) ∷ []
put_number = rw (cast_null, cast_whole 2) refl

numbers : (old new : State) (count : ℕ) → old.now.schema ≡ made_anew → old.now.trees 0 ≡ [] → Executes fill_number_text [] old new (Ok count)
    → (new.now.schema ≡ made_anew) × (new.now.trees 1 ≡ old.now.trees 1) × IsNumbered schema_number (new.now.trees 0)
numbers old new count has empty ran =
    let db = old.now.trees in
    let command = Insert 0 (given terms 2) in
    let w = runs_as fill_number_text [] old new made_anew has command number_is number_plain count ran in
    let text = statement_of fill_number_text (understood made_anew fill_number_text) in
    let done = went (subst (λ s. Does old.step_limit (mode_of old) [] (record old.now { schema = s }) text None command (Ok (w.tally, new.now))) has w.changed) in
    let now = ap (λ (p : Tally × Database). p.1) (same_value (went (went done.2).2).2) in
    let source = went done.1 in
    let written = went (went source.2).2 in
    let counted = went written.2 in
    let trees : done.0.trees ≡ written.0 = ap (λ (it : Written). it.trees) (same_value counted.2) ∙ same_value counted.1 in
    let step = one_step_of Layout.Anew _ db written.0 (edit_of db schema_table [] Chosen 0 source.0) written.1 in
    let one : edited db (edit_of db schema_table [] Chosen 0 source.0) ≡ (Int (pos 1) ∷ Int (pos 2) ∷ []) ∷ [] =
    ap (λ all. edited db (edit_of db schema_table [] Chosen 0 all)) source.1.1 ∙ ap (λ rows. put_in rows (given_row ∷ [])) empty ∙ put_number in (
      ap (λ (d : Database). d.schema) now,
      ap (λ (d : Database). d.trees 1) now ∙ ap (λ (t : Trees). t 1) trees ∙ step.tables.1.0 (λ e. omega (arith, e)),
      (pos 1, ap (λ (d : Database). d.trees 0) now ∙ ap (λ (t : Trees). t 0) trees ∙ step.rows ∙ one),
    )

-- what the three statements leave
pub made_within : (begun one two three : State) (a b c : ℕ) → begun.now.schema ≡ no_schema → Executes create_schema_text [] begun one (Ok a) → Executes create_history_text [] one two (Ok b)
    → Executes fill_number_text [] two three (Ok c) → (three.now.schema ≡ made_anew) × IsNumbered schema_number (three.now.trees 0) × (three.now.trees 1 ≡ [])
made_within begun one two three a b c blank first second third =
    let x = creates no_schema create_schema_text schema_table first_is.0 first_is.1 first_plain schema_made refl begun one a blank first in
    let y = creates one_table create_history_text history_table second_is.0 second_is.1 second_plain history_made refl one two b x.0 second in
    let kept : two.now.trees 0 ≡ [] = y.2.0 ∙ x.1 in
    let z = numbers two three c y.0 kept third in (z.0, z.2, z.1 ∙ y.1)

pub makes : (begun one two three last : State) (a b c : ℕ) → begun.now.schema ≡ no_schema → Executes create_schema_text [] begun one (Ok a) → Executes create_history_text [] one two (Ok b)
    → Executes fill_number_text [] two three (Ok c) → Shows three last three.now three.now false → last.step_limit ≡ None → HoldsRows last []
makes begun one two three last a b c blank first second third end limit =
    let made = made_within begun one two three a b c blank first second third in
    record {
      layout = Layout.Anew;
      is_open = end.is_open;
      schema = ap (λ (d : Database). d.schema) end.now_is ∙ made.0;
      settled = end.committed_is ∙ sym end.now_is;
      autocommit = end.mode;
      unlimited = limit;
      number = (made.1.0, ap (λ (d : Database). d.trees 0) end.now_is ∙ made.1.1);
      table = ap (λ (d : Database). d.trees 1) end.now_is ∙ made.2;
      entries = tt;
    }
