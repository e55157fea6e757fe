-- The copying of a block of the rows of schema 1.
use Rattle.std.proofs.Common.{◌≡◌, ℕ, zero, suc, pos, ◌+◌, ◌*◌, ◌<◌, ◌≤◌, List, [], ◌∷◌, ◌++◌, length, map, filter, take, drop, Bool, true, false, if◌then◌else◌, ◌&&◌, ap₂, None, Ok, IsTrue, refl, sym, ap, subst, ◌∙◌, arith}
use Rattle.std.specs.Prelude.{nat_lt}
use Rattle.std.proofs.lemmas.Bool.Decides.{nat_tests}
use Rattle.std.proofs.lemmas.Cmp.{on_total}
use Rattle.std.proofs.lemmas.Int.{ints}
use Rattle.std.proofs.lemmas.List.{append-nil, append_assoc, length-append, length-map, map-append, take-append-drop, take_all}
use Rattle.std.specs.List.Sorted.{IsPermutation}
use Rattle.std.specs.Ordering.{is_gt}
use Rattle.sqlite.specs.declared.types.Value.TheVariants.{Int, Null}
use Rattle.sqlite.specs.Order.{Row as Values}
use Rattle.sqlite_value.specs.Order.{value_cmp}
use Rattle.sqlite_value.specs.Keys.{ascending}
use Rattle.sqlite_value.proofs.OrderLemmas.{value_cmp-Int}
use Rattle.sqlite.specs.Term.{Env}
use Rattle.sqlite.specs.Ops.{binary, is_true}
use Rattle.sqlite.specs.Source.TheVariants.{Query as asked}
use Rattle.sqlite.specs.Command.TheVariants.{Insert}
use Rattle.sqlite.specs.Collation.TheVariants.{Binary}
use Rattle.sqlite.specs.Query.{inner, end, IsAnswer, output, output_cmp, Output, matches_as, page}
use Rattle.sqlite.specs.Program.{overlay}
use Rattle.sqlite_sql.specs.declared.ops.BinaryOp.TheVariants.{Compare}
use Rattle.sqlite_sql.specs.declared.ops.CompareOp.TheVariants.{Gt}
use Rattle.sqlite_sql.proofs.QueryLemmas.{key_cmp_total}
use Rattle.sqlite_keyed.proofs.SortLemmas.{sorted_unique}
use Rattle.sqlite.specs.Edit.{edit_of, edited, put_all, numbered}
use Rattle.sqlite.specs.Tree.{Trees, put_row}
use Rattle.sqlite.specs.Cast.{cast_row}
use Rattle.sqlite.specs.Rowids.TheVariants.{Chosen}
use Rattle.sqlite.specs.Table.{Table}
use Rattle.sqlite.specs.Schema.{Schema}
use Rattle.sqlite.specs.Does.{Tally, Does}
use Rattle.sqlite.specs.Rows.{Written}
use Rattle.sqlite.specs.Listing.{understood}
use Rattle.sqlite.specs.Effect.{Database}
use Rattle.sqlite.specs.State.{State, mode_of, Executes}
use Rattle.sqlite.proofs.Callers.{statement_of, runs_as}
use Rattle.history_keeper.specs.declared.row.Row.{Row}
use Rattle.history_sqlite.specs.Causes.{copy_text}
use Rattle.history_sqlite.specs.Columns.{taken_over}
use Rattle.history_sqlite.specs.Tables.{Layout, history_schema, stored, older_stored, AreNumbered}
use Rattle.history_sqlite.specs.Taking.{HoldsCopies, Copies, CopiesAll}
use Rattle.history_sqlite.proofs.Effects.{went, same_value}
use Rattle.history_sqlite.proofs.Inserting.{cast_stored, more, put_last}
use Rattle.history_sqlite.proofs.Layouts.{rows_table, one_step_of, copy_project, copying, copy_is, copy_plain}
use Rattle.history_sqlite.proofs.Selecting.{drop_none, in_order, parts}
use Rattle.history_sqlite.proofs.Updating.{truth_of}

-- ---- parts of a list

none : {X : Type 0} (n : ℕ) → take {A = X} n [] ≡ []
none zero = refl
none (suc n) = refl

take_split : {X : Type 0} (n m : ℕ) (xs : List X) → take n xs ++ take m (drop n xs) ≡ take (n + m) xs
take_split zero m xs = let e : m ≡ 0 + m = omega arith in ap (λ k. take k xs) e
take_split (suc n) m [] = none m ∙ sym (none (suc n + m))
take_split (suc n) m (x ∷ xs) = let e : suc (n + m) ≡ suc n + m = omega arith in ap (λ l. x ∷ l) (take_split n m xs) ∙ ap (λ k. take k (x ∷ xs)) e

take_map : {X Y : Type 0} (f : X → Y) (n : ℕ) (xs : List X) → take n (map f xs) ≡ map f (take n xs)
take_map f zero xs = refl
take_map f (suc n) [] = refl
take_map f (suc n) (x ∷ xs) = ap (λ l. f x ∷ l) (take_map f n xs)

-- ---- entries that are numbered

numbered_front : (from : ℕ) (before rest : List Row) → AreNumbered from (before ++ rest) → AreNumbered from before
numbered_front from [] rest low = tt
numbered_front from (row ∷ before) rest low = (low.0, numbered_front (from + 1) before rest low.1)

numbered_back : (from : ℕ) (before rest : List Row) → AreNumbered from (before ++ rest) → AreNumbered (from + length before) rest
numbered_back from [] rest low = let e : from ≡ from + 0 = omega arith in subst (λ n. AreNumbered n rest) e low
numbered_back from (row ∷ before) rest low =
    let e : from + 1 + length before ≡ from + length (row ∷ before) = omega arith in subst (λ n. AreNumbered n rest) e (numbered_back (from + 1) before rest low.1)

pub numbered_over : (from : ℕ) (rows : List Row) → AreNumbered from rows → AreNumbered from (map taken_over rows)
numbered_over from [] low = tt
numbered_over from (row ∷ rows) low = (low.0, numbered_over (from + 1) rows low.1)

-- ---- what the query gives

is_below : (a b : ℕ) → a < b → nat_lt a b ≡ true
is_below a b h = grind (arith, nat_tests)

is_not_below : (a b : ℕ) → b ≤ a → nat_lt a b ≡ false
is_not_below a b h = grind (arith, nat_tests)

gt_entry : (a b : ℕ) → is_gt (value_cmp (Int (pos a)) (Int (pos b))) ≡ nat_lt b a
gt_entry a b = ap is_gt (value_cmp-Int (pos a) (pos b)) ∙ grind (arith, ints, nat_tests)

later : (a b : ℕ) → is_true (binary (Compare Gt Binary) (Int (pos a)) (Int (pos b))) ≡ nat_lt b a
unfolding binary
later a b = truth_of (is_gt (value_cmp (Int (pos a)) (Int (pos b)))) ∙ gt_entry a b

-- a row as it is stored once it is taken over
abbrev given : Row → Values
given row = stored (taken_over row)

abbrev given_as : Row → Output
given_as row = (Int (pos row.entry) ∷ [], given row)

both : (rows : List Row) → map given rows ≡ map stored (map taken_over rows)
both [] = refl
both (row ∷ rows) = ap (λ l. given row ∷ l) (both rows)

module _ (from : ℕ) where
  abbrev params : Values
  params = Int (pos from) ∷ []

  abbrev is_later : Row → Bool
  is_later row = nat_lt from row.entry

  abbrev env : Row → Env
  env row = params ∷ older_stored row ∷ []

  matched : (rows : List Row) → matches_as Null (λ t. map older_stored rows) copying.filter (inner 1 end) (params ∷ []) ≡ map env (filter is_later rows)
  matched [] = refl
  matched (row ∷ rows) =
      ap₂ ◌++◌ (ap (λ b. if b && true then env row ∷ [] else []) (later row.entry from)) (matched rows) ∙ cases (is_later row)
    where
      cases : (b : Bool) → (if b && true then env row ∷ [] else []) ++ map env (filter is_later rows) ≡ map env (if b then row ∷ filter is_later rows else filter is_later rows)
      cases true = refl
      cases false = refl

  all_later : (first : ℕ) (rows : List Row) → from < first → AreNumbered first rows → filter is_later rows ≡ rows
  all_later first [] low numbered = refl
  all_later first (row ∷ rows) low numbered =
      let hits : nat_lt from row.entry ≡ true = is_below from row.entry (omega (arith, low, numbered.0)) in
      rw hits (ap (λ l. row ∷ l) (all_later (first + 1) rows (omega (arith, low)) numbered.1))

  -- of rows after an entry, those so many later
  passed : (k after : ℕ) (rows : List Row) → from ≡ after + k → AreNumbered (after + 1) rows → filter is_later rows ≡ drop k rows
  passed zero after rows is numbered = all_later (after + 1) rows (omega (arith, is)) numbered
  passed (suc k) after [] is numbered = refl
  passed (suc k) after (row ∷ rows) is numbered =
      let misses : nat_lt from row.entry ≡ false = is_not_below from row.entry (omega (arith, is, numbered.0)) in rw misses (passed k (after + 1) rows (omega (arith, is)) numbered.1)

  outputs : (rows : List Row) → map (output copying) (map env rows) ≡ map given_as rows
  outputs [] = refl
  outputs (row ∷ rows) = ap (λ l. given_as row ∷ l) (outputs rows)

  gives : (db : Trees) (older : List Row) (all : List Values) → db 1 ≡ map older_stored older → AreNumbered 1 older → IsAnswer copying (overlay db []) params all
      → all ≡ map stored (map taken_over (take 256 (drop from older)))
  gives db older all holds entries a =
      let rest = drop from older in
      let low = numbered_back 1 (take from older) rest (subst (AreNumbered 1) (sym (take-append-drop from older)) entries) in
      let later_ones : filter is_later older ≡ rest = passed from 0 older (omega arith) entries in
      let staged : a.staged ≡ map env rest =
      a.grouped ∙ ap (λ all. matches_as Null (λ t. all) copying.filter (inner 1 end) (params ∷ [])) holds ∙ matched older ∙ ap (map env) later_ones in
      let kept : a.kept ≡ map given_as rest = a.distinct ∙ ap (map (output copying)) staged ∙ outputs rest in
      let total = on_total (λ (o : Output). o.0) (key_cmp_total (ascending Binary ∷ []) 0) in
      let sorted = in_order 1 (λ db. refl) copy_project older_stored given (λ row. refl) (1 + length (take from older)) rest low in
      let ordered : a.ordered ≡ map given_as rest = sorted_unique (output_cmp copying) total (map given_as rest) a.ordered sorted (subst (λ k. IsPermutation k a.ordered) kept a.same) a.sorted in
      let shown = parts 1 (λ db. refl) copy_project older_stored given (λ row. refl) rest in
      a.shown ∙ ap (λ (os : List Output). page copying params (map (λ (o : Output). o.1) os)) ordered
      ∙ ap (take 256) (drop_none (map (λ (o : Output). o.1) (map given_as rest)) ∙ shown) ∙ take_map given 256 rest ∙ both (take 256 rest)

-- ---- what the insert does

abbrev taken_schema : Schema
taken_schema = history_schema Layout.TakenOver

abbrev table : Table
table = rows_table Layout.TakenOver

-- rows that the insert is given, as it numbers them behind these
abbrev behind : List Values → List Values → List Values
behind rows all = put_all rows (numbered Chosen rows (map (λ (r : Values). cast_row table (drop 0 r)) all))

puts_all : (before new : List Row) → AreNumbered 1 before → AreNumbered (1 + length before) new → behind (map stored before) (map stored new) ≡ map stored (before ++ new)
puts_all before [] low next = sym (ap (map stored) (append-nil before))
puts_all before (row ∷ new) low next =
    let rows = map stored before in
    let cast_new = map (λ (r : Values). cast_row table (drop 0 r)) (map stored new) in
    let here : put_row (stored row) rows ≡ map stored (before ++ row ∷ []) = put_last 1 row before next.0 low ∙ sym (map-append stored before (row ∷ [])) in
    let e : 1 + length before + 1 ≡ 1 + length (before ++ row ∷ []) = let l = length-append before (row ∷ []) in omega (arith, l) in
    ap (λ (r : Values). put_all rows (numbered Chosen rows (r ∷ cast_new))) (cast_stored Layout.TakenOver row)
    ∙ ap (λ (all : List Values). put_all all (numbered Chosen all cast_new)) here
    ∙ puts_all (before ++ row ∷ []) new (more 1 before row next.0 low) (subst (λ n. AreNumbered n new) e next.1)
    ∙ ap (map stored) (append_assoc before (row ∷ []) new)

pub copied : (old new : State) (from count : ℕ) → IsTrue new.in_transaction → Executes copy_text (Int (pos from) ∷ []) old new (Ok count) → Copies old new from
copied old new from count inside ran older h =
    let given_params = Int (pos from) ∷ [] in
    let db = old.now.trees in
    let before = take from older in
    let rest = drop from older in
    let next = take 256 rest in
    let entries = subst (AreNumbered 1) (sym (take-append-drop from older)) h.entries in
    let low = numbered_over 1 before (numbered_front 1 before rest entries) in
    let after : AreNumbered (1 + length before) next =
    numbered_front (1 + length before) next (drop 256 rest) (subst (AreNumbered (1 + length before)) (sym (take-append-drop 256 rest)) (numbered_back 1 before rest entries)) in
    let high : AreNumbered (1 + length (map taken_over before)) (map taken_over next) =
    subst (λ n. AreNumbered (1 + n) (map taken_over next)) (sym (length-map before taken_over)) (numbered_over (1 + length before) next after) in
    let command = Insert 2 (asked (record { lets = []; body = copying })) in
    let w = runs_as copy_text given_params old new taken_schema h.schema command copy_is copy_plain count ran in
    let text = statement_of copy_text (understood taken_schema copy_text) in
    let done = went (subst (λ s. Does old.step_limit (mode_of old) given_params (record old.now { schema = s }) text None command (Ok (w.tally, new.now))) h.schema w.changed) in
    let now = ap (λ (p : Tally × Database). p.1) (same_value (went (went done.2).2).2) in
    let source = went done.1 in
    let written = went (went source.2).2 in
    let counted = went written.2 in
    let trees : done.0.trees ≡ written.0 = ap (λ (it : Written). it.trees) (same_value counted.2) ∙ same_value counted.1 in
    let step = one_step_of Layout.TakenOver _ db written.0 (edit_of db table [] Chosen 0 source.0) written.1 in
    let found = gives from db older source.0 h.stays h.entries (source.1.answer Null) in
    let one : edited db (edit_of db table [] Chosen 0 source.0) ≡ map stored (map taken_over before ++ map taken_over next) =
    ap (λ all. edited db (edit_of db table [] Chosen 0 all)) found ∙ ap (λ (rows : List Values). behind rows (map stored (map taken_over next))) h.table
    ∙ puts_all (map taken_over before) (map taken_over next) low high in
    let whole : map taken_over before ++ map taken_over next ≡ map taken_over (take (from + 256) older) = sym (map-append taken_over before next) ∙ ap (map taken_over) (take_split from 256 older) in
    record {
      inside = inside;
      schema = ap (λ (d : Database). d.schema) now;
      number = (h.number.0, ap (λ (d : Database). d.trees 0) now ∙ ap (λ (t : Trees). t 0) trees ∙ step.tables.0 (λ e. omega (arith, e)) ∙ h.number.1);
      stays = ap (λ (d : Database). d.trees 1) now ∙ ap (λ (t : Trees). t 1) trees ∙ step.tables.1.0 (λ e. omega (arith, e)) ∙ h.stays;
      table = ap (λ (d : Database). d.trees 3) now ∙ ap (λ (t : Trees). t 3) trees ∙ step.rows ∙ one ∙ ap (map stored) whole;
      entries = h.entries;
    }

-- ---- one block after the other

-- Statements that copied so many blocks.
abbrev pub CopiesBlocks : State → State → ℕ → Type 0
CopiesBlocks old new turns = (older : List Row) → HoldsCopies old older [] → HoldsCopies new older (take (turns * 256) older)

pub copies_next : (start now next : State) (turn : ℕ) → CopiesBlocks start now turn → Copies now next (turn * 256) → CopiesBlocks start next (turn + 1)
copies_next start now next turn done one older h = let e : turn * 256 + 256 ≡ (turn + 1) * 256 = omega arith in subst (λ n. HoldsCopies next older (take n older)) e (one older (done older h))

pub copies_all : (start now : State) (count turns : ℕ) → CopiesBlocks start now turns → count ≤ turns * 256 → CopiesAll start now count
copies_all start now count turns done enough older h is = subst (HoldsCopies now older) (take_all (turns * 256) older (omega (arith, is, enough))) (done older h)
