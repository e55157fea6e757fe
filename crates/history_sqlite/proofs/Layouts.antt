-- What is the same in both layouts: the place of the table of the rows, and what each statement on it is.
use Rattle.std.proofs.Common.{◌≡◌, ◌≢◌, ℕ, pos, negsuc, List, [], ◌∷◌, ◌++◌, map, codes, false, None, Some, Ok, refl, arith}
use Rattle.std.specs.Prelude.{slice_get}
use Rattle.std.specs.List.{AllByRecursion}
use Rattle.sqlite.specs.declared.types.Value.TheVariants.{Null, Int}
use Rattle.sqlite.specs.Order.{Row as Values}
use Rattle.sqlite.specs.Term.{Term, lit, col, op2}
use Rattle.sqlite.specs.Source.TheVariants.{Values as given, Query as asked}
use Rattle.sqlite.specs.Command.TheVariants.{Insert, Select, Update}
use Rattle.sqlite.specs.Collation.TheVariants.{Binary}
use Rattle.sqlite.specs.Query.{Query, inner, end}
use Rattle.sqlite.specs.Program.{overlay}
use Rattle.sqlite_value.specs.Keys.{ascending}
use Rattle.sqlite_sql.specs.declared.ops.BinaryOp.TheVariants.{Compare}
use Rattle.sqlite_sql.specs.declared.ops.CompareOp.TheVariants.{Eq, Gt}
use Rattle.sqlite_schema.specs.declared.schema.Keys.{Keys}
use Rattle.sqlite_rules.specs.Edit.{Edit, taken_by, Applies}
use Rattle.sqlite_rules.specs.Action.{works, Writes}
use Rattle.sqlite.specs.Tree.{Trees}
use Rattle.sqlite.specs.Table.{Table}
use Rattle.sqlite_tied.specs.Compute.{everything}
use Rattle.sqlite.specs.Listing.{understood, reads_listing}
use Rattle.sqlite.proofs.Callers.{IsPlain, command_of, one_step}
use Rattle.history_sqlite.specs.Causes.{insert_text, select_text, older_select_text, update_text, copy_text}
use Rattle.history_sqlite.specs.Tables.{Layout, schema_table, history_table, history_schema, older_schema, rows_tree}

-- ---- the table of the rows

abbrev pub rows_place : Layout → ℕ
rows_place Layout.Anew = 1
rows_place Layout.TakenOver = 2

abbrev pub rows_table : Layout → Table
rows_table layout = record history_table { tree = rows_tree layout }

pub rows_there : (layout : Layout) → slice_get (history_schema layout).tables (rows_place layout) ≡ Some (rows_table layout)
rows_there Layout.Anew = refl
rows_there Layout.TakenOver = refl

-- no foreign key acts
none_acts : (layout : Layout) (keys : Keys) (depth tree : ℕ) (olds news : List Values) → works (history_schema layout) keys depth tree olds news ≡ []
none_acts Layout.Anew keys depth tree olds news = refl
none_acts Layout.TakenOver keys depth tree olds news = refl

-- a write to a table is its one step
pub one_step_of : (layout : Layout) (keys : Keys) (db next : Trees) (edit : Edit) → Writes (history_schema layout) keys db edit (Ok next) → Applies (history_schema layout) keys db edit next
one_step_of layout keys db next edit h = one_step (history_schema layout) keys db next edit (none_acts layout keys 0 edit.table.tree (taken_by db edit) edit.news) h

-- the table of the number comes first
pub first_table : (layout : Layout) (P : Table → Type 0) → AllByRecursion P (history_schema layout).tables → P schema_table
first_table Layout.Anew P h = h.0
first_table Layout.TakenOver P h = h.0

pub apart : (layout : Layout) → 0 ≢ rows_tree layout
apart Layout.Anew e = omega (arith, e)
apart Layout.TakenOver e = omega (arith, e)

-- a query without WITH reads the database's own table
pub overlaid : (layout : Layout) (db : Trees) → overlay db [] (rows_tree layout) ≡ db (rows_tree layout)
overlaid Layout.Anew db = refl
overlaid Layout.TakenOver db = refl

-- ---- the insert

abbrev pub terms : List Term
terms =
    col 0 0 ∷ lit Null ∷ col 0 1 ∷ col 0 2 ∷ col 0 3 ∷ col 0 4 ∷ col 0 5 ∷ col 0 6 ∷ col 0 7 ∷ col 0 8 ∷ col 0 9 ∷ col 0 10 ∷ col 0 11 ∷ col 0 12 ∷ col 0 13 ∷ col 0 14 ∷ col 0 15 ∷ []

pub insert_is : (layout : Layout) → command_of (understood (history_schema layout) insert_text) ≡ Insert (rows_place layout) (given terms 17)
unfolding understood everything
insert_is Layout.Anew = refl
insert_is Layout.TakenOver = refl

pub insert_plain : (layout : Layout) → IsPlain (understood (history_schema layout) insert_text)
unfolding understood everything
insert_plain Layout.Anew = (refl, refl)
insert_plain Layout.TakenOver = (refl, refl)

-- ---- the selects

-- all rows of a tree, by the first of these columns
abbrev pub query_of : ℕ → List Term → Query
query_of tree project = record {
  from = inner tree end;
  filter = [];
  group = None;
  project = project;
  distinct = false;
  collations = [];
  order = (col 1 0, ascending Binary) ∷ [];
  limit = lit (Int (negsuc 0));
  offset = lit (Int (pos 0));
}

abbrev pub older_project : List Term
older_project = col 1 0 ∷ col 1 2 ∷ col 1 3 ∷ col 1 4 ∷ col 1 5 ∷ col 1 6 ∷ col 1 7 ∷ col 1 8 ∷ col 1 9 ∷ col 1 10 ∷ col 1 11 ∷ col 1 12 ∷ col 1 13 ∷ []

abbrev pub project : List Term
project = older_project ++ col 1 14 ∷ col 1 15 ∷ col 1 16 ∷ []

abbrev pub older_names : List (List ℕ)
older_names =
    codes "entry" ∷ codes "tag" ∷ codes "client" ∷ codes "device" ∷ codes "component" ∷ codes "version_old" ∷ codes "version_new" ∷ codes "digest" ∷ codes "flags" ∷ codes "state"
    ∷ codes "reason" ∷ codes "time_added" ∷ codes "time_changed" ∷ []

abbrev pub names : List (List ℕ)
names = older_names ++ codes "duration" ∷ codes "protocol" ∷ codes "retry_of" ∷ []

pub select_is : (layout : Layout) → (command_of (understood (history_schema layout) select_text) ≡ Select (record { lets = []; body = query_of (rows_tree layout) project }) names)
    × (reads_listing (history_schema layout) select_text ≡ false)
unfolding understood everything
select_is Layout.Anew = (refl, refl)
select_is Layout.TakenOver = (refl, refl)

pub select_plain : (layout : Layout) → IsPlain (understood (history_schema layout) select_text)
unfolding understood everything
select_plain Layout.Anew = (refl, refl)
select_plain Layout.TakenOver = (refl, refl)

pub older_select_is : (command_of (understood older_schema older_select_text) ≡ Select (record { lets = []; body = query_of 1 older_project }) older_names) × (reads_listing older_schema older_select_text ≡ false)
unfolding understood everything
older_select_is = (refl, refl)

pub older_select_plain : IsPlain (understood older_schema older_select_text)
unfolding understood everything
older_select_plain = (refl, refl)

-- ---- the copying of a block of the rows of schema 1

abbrev pub copy_project : List Term
copy_project =
    col 1 0 ∷ lit Null ∷ col 1 2 ∷ col 1 3 ∷ col 1 4 ∷ col 1 5 ∷ col 1 6 ∷ col 1 7 ∷ col 1 8 ∷ col 1 9 ∷ col 1 10 ∷ col 1 11 ∷ col 1 12 ∷ col 1 13 ∷ lit (Int (pos 0)) ∷ lit Null ∷ lit Null ∷ []

abbrev pub copying : Query
copying = record (query_of 1 copy_project) { collations = map (λ (t : Term). Binary) copy_project; filter = op2 (Compare Gt Binary) (col 1 0) (col 0 0) ∷ []; limit = lit (Int (pos 256)) }

pub copy_is : command_of (understood (history_schema Layout.TakenOver) copy_text) ≡ Insert 2 (asked (record { lets = []; body = copying }))
unfolding understood everything
copy_is = refl

pub copy_plain : IsPlain (understood (history_schema Layout.TakenOver) copy_text)
unfolding understood everything
copy_plain = (refl, refl)

-- ---- the update

abbrev pub changing : ℕ → Query
changing tree = record {
  from = inner tree end;
  filter = op2 (Compare Eq Binary) (col 1 0) (col 0 0) ∷ [];
  group = None;
  project = col 1 0 ∷ col 1 0 ∷ lit Null ∷ col 1 2 ∷ col 1 3 ∷ col 1 4 ∷ col 1 5 ∷ col 1 6 ∷ col 1 7 ∷ col 1 8 ∷ col 1 9 ∷ col 0 1 ∷ col 0 2 ∷ col 1 12 ∷ col 0 3 ∷ col 1 14 ∷ col 1 15 ∷ col 1 16 ∷ [];
  distinct = false;
  collations = [];
  order = [];
  limit = lit (Int (negsuc 0));
  offset = lit (Int (pos 0));
}

pub update_is : (layout : Layout) → command_of (understood (history_schema layout) update_text) ≡ Update (rows_place layout) (record { lets = []; body = changing (rows_tree layout) })
unfolding understood everything
update_is Layout.Anew = refl
update_is Layout.TakenOver = refl

pub update_plain : (layout : Layout) → IsPlain (understood (history_schema layout) update_text)
unfolding understood everything
update_plain Layout.Anew = (refl, refl)
update_plain Layout.TakenOver = (refl, refl)
