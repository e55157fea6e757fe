-- What a keeper tells after each statement.
use Rattle.std.proofs.Common.{◌≡◌, inl, inr, ℕ, pos, Bool, true, false, List, [], ◌∷◌, map, codes, Option, Some, None, Result, Ok, Err, OnErr, OnOk, IsTrue, option_map, unwrap_or, refl, sym, ap, subst, ◌∙◌}
use Rattle.sqlite.specs.declared.types.Value.{Value}
use Rattle.sqlite.specs.declared.types.Value.TheVariants.{Int, Text}
use Rattle.sqlite.specs.Order.{column}
use Rattle.sqlite.specs.Schema.{Schema}
use Rattle.sqlite.specs.Store.{Ghosts}
use Rattle.sqlite.specs.Held.{state}
use Rattle.sqlite.specs.Values.{or_null}
use Rattle.sqlite.specs.State.{State, HasCleanDisk}
use Rattle.sqlite_schema.specs.Names.{same_name}
use Rattle.sqlite_value.specs.Order.{bytes}
use Rattle.history_keeper.specs.declared.row.Row.{Row}
use Rattle.history_keeper.specs.declared.row.RowState.{RowState}
use Rattle.history_keeper.specs.declared.row.RowState.TheVariants.{Pending, Begun}
use Rattle.history_keeper.specs.declared.change.Change.{Change}
use Rattle.history_keeper.specs.declared.plan.Doubt.{Doubt}
use Rattle.history_keeper.specs.Changes.{Suits, changed}
use Rattle.history_keeper.specs.declared.refusal.KeeperRefusal.{KeeperRefusal}
use Rattle.history_keeper.specs.Keepers.{Reopened, StillSettled, StillTold, ToldWith, with_doubt}
use Rattle.history_keeper.specs.Memories.{kept}
use Rattle.history_sqlite.specs.Columns.{state_in, state_number, taken_over, text_in, integer_in}
use Rattle.history_sqlite.specs.Finding.{table_with}
use Rattle.history_sqlite.specs.Keeping.{Keeping, doubtful}
use Rattle.history_sqlite.specs.Tables.{Layout, HasAny, HoldsRows, Keeps, Loads, Makes, Opens, history_schema, rows_tree, stored}
use Rattle.history_sqlite.specs.Telling.{IsSettled, Knows, SettledSo, Settles, SuitsDoubt, TellsRows, database}

-- ---- a table holds one list of rows: each is read back from what is stored

abbrev whole : Value → ℕ
whole (Int (pos n)) = n
whole _ = 0

abbrev row_in : List Value → Row
row_in r = record {
  entry = whole (column r 0);
  tag = bytes (column r 2);
  client = whole (column r 3);
  device = bytes (column r 4);
  component = bytes (column r 5);
  version_old = bytes (column r 6);
  version_new = bytes (column r 7);
  digest = bytes (column r 8);
  flags = whole (column r 9);
  state = unwrap_or (state_in (column r 10)) Begun;
  reason = whole (column r 11);
  time_added = whole (column r 12);
  time_changed = whole (column r 13);
  duration = whole (column r 14);
  protocol = text_in (column r 15);
  retry_of = integer_in (column r 16);
}

abbrev tree_of_rows : Schema → ℕ
tree_of_rows schema = unwrap_or (option_map (λ t. t.tree) (table_with (codes "history2") schema.tables)) 0

abbrev rows_in : State → List Row
rows_in s = map row_in (s.now.trees (tree_of_rows s.now.schema))

state_again : (s : RowState) → unwrap_or (state_in (Int (pos (state_number s)))) Begun ≡ s
state_again Pending = refl
state_again _ = refl

text_again : (t : Option (List ℕ)) → text_in (or_null Text t) ≡ t
text_again None = refl
text_again (Some t) = refl

link_again : (n : Option ℕ) → integer_in (or_null (λ (k : ℕ). Int (pos k)) n) ≡ n
link_again None = refl
link_again (Some n) = refl

row_again : (row : Row) → row_in (stored row) ≡ row
row_again row =
    ap (λ (s : RowState). record row { state = s; protocol = text_in (or_null Text row.protocol); retry_of = integer_in (or_null (λ (k : ℕ). Int (pos k)) row.retry_of) }) (state_again row.state)
    ∙ ap (λ (t : Option (List ℕ)). record row { protocol = t; retry_of = integer_in (or_null (λ (k : ℕ). Int (pos k)) row.retry_of) }) (text_again row.protocol)
    ∙ ap (λ (n : Option ℕ). record row { retry_of = n }) (link_again row.retry_of)

rows_again : (rows : List Row) → map row_in (map stored rows) ≡ rows
rows_again [] = refl
rows_again (row ∷ rows) = rw (row_again row, rows_again rows)

tree_is : (layout : Layout) → tree_of_rows (history_schema layout) ≡ rows_tree layout
unfolding same_name
tree_is Layout.Anew = refl
tree_is Layout.TakenOver = refl

told_rows : (s : State) (rows : List Row) → HoldsRows s rows → rows_in s ≡ rows
told_rows s rows h = ap (λ (tree : ℕ). map row_in (s.now.trees tree)) (ap tree_of_rows h.schema ∙ tree_is h.layout) ∙ ap (map row_in) h.table ∙ rows_again rows

pub same_rows : (s : State) (a b : List Row) → HoldsRows s a → HoldsRows s b → a ≡ b
same_rows s a b h k = sym (told_rows s a h) ∙ told_rows s b k

-- ---- over a call

module _ {D : Type 0} (store : Ghosts D) (supposed : Type 0) (old new : Keeping D) (may : new.tells ≡ old.tells) (knows : Knows old.tells supposed (database store old) old.doubt)
    (clean : HasCleanDisk (database store new) → HasCleanDisk (database store old)) (was_open : HasCleanDisk (database store new) → IsTrue (database store new).is_open → IsTrue (database store old).is_open) where
  -- a keeper that tells rows now told rows before, which the doubtful change suited
  rows_before : (all : List Row) → TellsRows store supposed new all → (rows : List Row) × TellsRows store supposed old rows × SuitsDoubt old.doubt rows
  rows_before all t =
      let told : old.tells ≡ true = sym may ∙ t.may in
      let k = subst (λ (b : Bool). Knows b supposed (database store old) old.doubt) told knows in
      let was = clean t.clean in
      let r = k t.store_is was (was_open t.clean t.holds.is_open) in
      (r.0, record { may = told; store_is = t.store_is; clean = was; holds = r.1 }, r.2)

  -- the rows were left
  pub still_told : (HasCleanDisk (database store new) → IsTrue (database store new).is_open → Keeps (database store old) (database store new)) → StillTold (TellsRows store supposed old) (TellsRows store supposed new)
  still_told keeps all t =
      let r = rows_before all t in
      subst (TellsRows store supposed old) (same_rows (database store new) r.0 all (keeps t.clean t.holds.is_open r.0 r.1.holds) t.holds) r.1

  -- they were given
  pub given : (loaded : List Row) → (HasCleanDisk (database store new) → Loads (database store old) (database store new) loaded) → (all : List Row) → TellsRows store supposed new all → loaded ≡ all
  given loaded loads all t =
      let r = rows_before all t in
      let l = loads t.clean r.0 r.1.holds in
      l.0 ∙ same_rows (database store new) r.0 all l.1 t.holds

  -- the change was made
  pub told_made : (change : Change) → ((all : List Row) → TellsRows store supposed old all → Suits change all) → (HasCleanDisk (database store new) → Makes (database store old) (database store new) change) → ToldWith change (TellsRows store supposed old) (TellsRows store supposed new)
  told_made change suits makes all t =
      let r = rows_before all t in
      let made = makes t.clean r.0 r.1.holds (suits r.0 r.1) in
      (r.0, r.1, same_rows (database store new) all (changed change r.0) t.holds made)

-- the doubtful change suits the rows that are told
pub suits_told : {D : Type 0} (store : Ghosts D) (supposed : Type 0) (k : Keeping D) → Knows k.tells supposed (database store k) k.doubt → (it : Doubt) → k.doubt ≡ Some it → (all : List Row) → TellsRows store supposed k all → Suits it.change all
suits_told store supposed k knows it is all t =
    let known = subst (λ (b : Bool). Knows b supposed (database store k) k.doubt) t.may knows in
    let r = known t.store_is t.clean t.holds.is_open in
    subst (λ d. SuitsDoubt d all) is (subst (SuitsDoubt k.doubt) (same_rows (database store k) r.0 all r.1 t.holds) r.2)

-- ---- a keeper over the same database

module _ {D : Type 0} (store : Ghosts D) (old new : Keeping D) (same : new.connection ≡ old.connection) where
  -- it tells the same, if it may
  pub told_alike : (supposed : Type 0) → new.tells ≡ old.tells → StillTold (TellsRows store supposed old) (TellsRows store supposed new)
  told_alike supposed may all t = record {
    may = sym may ∙ t.may;
    store_is = t.store_is;
    clean = subst (λ h. HasCleanDisk (state store h)) same t.clean;
    holds = subst (λ h. HoldsRows (state store h) all) same t.holds;
  }

  -- and is what a reopening made, if its doubt is the same
  pub settled_alike : new.doubt ≡ old.doubt → StillSettled (IsSettled store) old new
  settled_alike doubt first s = record {
    no_doubt = doubt ∙ s.no_doubt;
    settles = subst (λ h. HasCleanDisk (state store h) → IsTrue (state store h).is_open → Settles (database store first) (state store h) first.doubt) (sym same) s.settles;
  }

-- ---- what a keeper knows, over a call of its connection

module _ (supposed : Type 0) (old new : State) (clean : HasCleanDisk new → HasCleanDisk old) (was_open : HasCleanDisk new → IsTrue new.is_open → IsTrue old.is_open) where
  pub knows_left : (tells : Bool) (doubt : Option Doubt) → (HasCleanDisk new → IsTrue new.is_open → Keeps old new) → Knows tells supposed old doubt → Knows tells supposed new doubt
  knows_left false doubt keeps k = tt
  knows_left true doubt keeps k = λ so c o. let r = k so (clean c) (was_open c o) in (r.0, keeps c o r.0 r.1, r.2)

  -- the change suits the rows that are told, so it suits those that are known
  pub knows_made : (tells : Bool) (change : Change) (doubt : Option Doubt) → (tells ≡ true → supposed → HasCleanDisk old → (all : List Row) → HoldsRows old all → Suits change all) → (HasCleanDisk new → Makes old new change) → Knows tells supposed old doubt → Knows tells supposed new None
  knows_made false change doubt suits makes k = tt
  knows_made true change doubt suits makes k = λ so c o. let r = k so (clean c) (was_open c o) in (changed change r.0, makes c r.0 r.1 (suits refl so (clean c) r.0 r.1), tt)

-- it may be in doubt of a change that suits them
pub knows_doubted : (supposed : Type 0) (s : State) (tells : Bool) (doubt : Option Doubt) (it : Doubt) → (tells ≡ true → supposed → HasCleanDisk s → (all : List Row) → HoldsRows s all → Suits it.change all) → Knows tells supposed s doubt → Knows tells supposed s (Some it)
knows_doubted supposed s false doubt it suits k = tt
knows_doubted supposed s true doubt it suits k = λ so c o. let r = k so c o in (r.0, r.1, suits refl so c r.0 r.1)

pub knows_clear : (supposed : Type 0) (s : State) (tells : Bool) (doubt : Option Doubt) → Knows tells supposed s doubt → Knows tells supposed s None
knows_clear supposed s false doubt k = tt
knows_clear supposed s true doubt k = λ so c o. let r = k so c o in (r.0, r.1, tt)

-- as it was opened: the table of this schema, that of schema 1, or none
pub knows_opened : (supposed : Type 0) (tells : Bool) (old mid new : State) (loaded : List Row) → (HasCleanDisk new → HasCleanDisk mid) → (HasCleanDisk mid → Opens old mid) → (HasCleanDisk new → Loads mid new loaded) → (tells ≡ true → supposed → HasCleanDisk old → HasAny old) → (HasCleanDisk mid → HasCleanDisk old) → Knows tells supposed new None
knows_opened supposed false old mid new loaded late opens loads any before = tt
knows_opened supposed true old mid new loaded late opens loads any before = λ so c o. at (opens (late c)) (loads c) (any refl so (before (late c)))
  where
    at : Opens old mid → Loads mid new loaded → HasAny old → (all : List Row) × HoldsRows new all × Unit {0}
    at o l (inl h) = (h.0, (l h.0 (o.0 h.0 h.1)).1, tt)
    at o l (inr (inl h)) = (map taken_over h.0, (l (map taken_over h.0) (o.1.0 h.0 h.1)).1, tt)
    at o l (inr (inr blank)) = ([], (l [] (o.1.1 blank)).1, tt)

-- ---- what a reopening settles

-- it stays settled over a call that leaves the rows
pub still_settled : (first old new : State) (doubt left : Option Doubt) → (HasCleanDisk new → HasCleanDisk old) → (HasCleanDisk new → IsTrue new.is_open → IsTrue old.is_open) → (HasCleanDisk new → IsTrue new.is_open → Keeps old new) → SettledSo first old doubt left → SettledSo first new doubt left
still_settled first old new doubt left clean was_open keeps s =
    record { no_doubt = s.no_doubt; settles = λ c o rows holds suits. keeps c o (kept doubt rows) (s.settles (clean c) (was_open c o) rows holds suits) }

kept_is : (change : Change) (keep : Bool) (rows : List Row) → keep ≡ true → kept (Some (record { change = change; keep = keep })) rows ≡ changed change rows
kept_is change true rows h = refl
kept_is change false rows h = absurd cc

-- the rows were read, and then the change that is to be kept was made
pub settled : (old mid new : State) (doubt : Option Doubt) (it : Doubt) (loaded : List Row) → doubt ≡ Some it → it.keep ≡ true → Loads old mid loaded → Makes mid new it.change → Settles old new doubt
settled old mid new doubt it loaded is keep loads makes rows holds suits =
    let made = makes rows (loads rows holds).1 (subst (λ d. SuitsDoubt d rows) is suits) in
    subst (λ d. HoldsRows new (kept d rows)) (sym is) (subst (HoldsRows new) (sym (kept_is it.change it.keep rows keep)) made)

-- a reopening that read the rows and then wrote the doubtful change
pub reopened_written : {D : Type 0} (tells : Keeping D → List Row → Type 0) (old mid new : Keeping D) (r : Result (Unit {0}) KeeperRefusal) (it : Doubt) → old.doubt ≡ Some it → mid.doubt ≡ old.doubt
    → StillTold (tells old) (tells mid) → OnOk r (ToldWith it.change (tells mid) (tells new)) → OnOk r (new ≡ record mid { connection = new.connection; doubt = None }) → OnErr r (StillTold (tells mid) (tells new)) → OnErr r (new ≡ record mid { connection = new.connection })
    → Reopened r (tells old) (doubtful old) (tells new) (doubtful new)
reopened_written tells old mid new (Ok unit) it is same read made none left kept = (
  λ all t.
      let b = made all t in
      (b.0, read b.0 b.1, inr (b.2 ∙ ap (λ (d : Option Doubt). with_doubt (option_map (λ (x : Doubt). x.change) d) b.0) (sym is))),
  ap (λ k. doubtful k) none,
)
reopened_written tells old mid new (Err KeeperRefusal.Fault) it is same read made none left kept =
    (λ all t. read all (left all t), ap (λ k. doubtful k) kept ∙ ap (λ (d : Option Doubt). option_map (λ (x : Doubt). x.change) d) same)
reopened_written tells old mid new (Err KeeperRefusal.NoMemory) it is same read made none left kept =
    (λ all t. read all (left all t), ap (λ k. doubtful k) kept ∙ ap (λ (d : Option Doubt). option_map (λ (x : Doubt). x.change) d) same)
