-- What a keeper of marks tells after each statement.
use Rattle.std.proofs.Common.{◌≡◌, inl, inr, ℕ, ◌^◌, Bool, true, false, List, [], ◌∷◌, ◌++◌, map, Option, Some, None, Result, Ok, Err, IfOk, OnErr, OnOk, IsTrue, option_map, refl, sym, ap, subst, ◌∙◌}
use Rattle.sqlite.specs.Store.{Ghosts}
use Rattle.sqlite.specs.Held.{state}
use Rattle.sqlite.specs.State.{State, HasCleanDisk}
use Rattle.history_keeper.specs.declared.refusal.KeeperRefusal.{KeeperRefusal}
use Rattle.report_queue.specs.declared.memory_marks.DoubtfulMark.{DoubtfulMark}
use Rattle.report_queue.specs.Marking.{with_doubt, with_entry, MarksStay, MarksWith, Reopened}
use Rattle.report_queue.specs.Memories.{kept}
use Rattle.history_sqlite.proofs.ReadBack.{number_same}
use Rattle.marks_sqlite.specs.Causes.{entry_read}
use Rattle.marks_sqlite.specs.Keeping.{Keeping, doubtful}
use Rattle.marks_sqlite.specs.OneList.{same_marks}
use Rattle.marks_sqlite.specs.Tables.{shown_of, Adds, HasAny, HoldsMarks, Keeps, Loads, Opens}
use Rattle.marks_sqlite.specs.Telling.{database, Knows, Settles, TellsMarks}

-- ---- over a call

module _ {D : Type 0} (store : Ghosts D) (supposed : Type 0) (old new : Keeping D) (may : new.tells ≡ old.tells) (knows : Knows old.tells supposed (database store old))
    (clean : HasCleanDisk (database store new) → HasCleanDisk (database store old)) (was_open : HasCleanDisk (database store new) → IsTrue (database store new).is_open → IsTrue (database store old).is_open) where
  -- a keeper that tells marks now told marks before
  marks_before : (all : List ℕ) → TellsMarks store supposed new all → (marks : List ℕ) × TellsMarks store supposed old marks
  marks_before all t =
      let told : old.tells ≡ true = sym may ∙ t.may in
      let k = subst (λ (b : Bool). Knows b supposed (database store old)) told knows in
      let was = clean t.clean in
      let r = k t.store_is was (was_open t.clean t.holds.is_open) in
      (r.0, record { may = told; store_is = t.store_is; clean = was; holds = r.1 })

  -- the marks were left
  pub still_told : (HasCleanDisk (database store new) → IsTrue (database store new).is_open → Keeps (database store old) (database store new)) → MarksStay (TellsMarks store supposed old) (TellsMarks store supposed new)
  still_told keeps all t =
      let r = marks_before all t in
      subst (TellsMarks store supposed old) (same_marks (database store new) r.0 all (keeps t.clean t.holds.is_open r.0 r.1.holds) t.holds) r.1

  -- they were given
  pub given : (loaded : List ℕ) → (HasCleanDisk (database store new) → Loads (database store old) (database store new) loaded) → (all : List ℕ) → TellsMarks store supposed new all → loaded ≡ all
  given loaded loads all t =
      let r = marks_before all t in
      let l = loads t.clean r.0 r.1.holds in
      l.0 ∙ same_marks (database store new) r.0 all l.1 t.holds

  -- the mark was made
  pub told_made : (entry : ℕ) → (HasCleanDisk (database store new) → Adds (database store old) (database store new) entry) → MarksWith entry (TellsMarks store supposed old) (TellsMarks store supposed new)
  told_made entry adds all t =
      let r = marks_before all t in
      (r.0, r.1, same_marks (database store new) all (with_entry entry r.0) t.holds (adds t.clean r.0 r.1.holds))

-- a keeper over the same database tells the same, if it may
module _ {D : Type 0} (store : Ghosts D) (supposed : Type 0) (old new : Keeping D) where
  pub told_alike : new.connection ≡ old.connection → new.tells ≡ old.tells → MarksStay (TellsMarks store supposed old) (TellsMarks store supposed new)
  told_alike same may all t = record {
    may = sym may ∙ t.may;
    store_is = t.store_is;
    clean = subst (λ h. HasCleanDisk (state store h)) same t.clean;
    holds = subst (λ h. HoldsMarks (state store h) all) same t.holds;
  }

-- ---- what a keeper knows, over a call of its connection

module _ (supposed : Type 0) (old new : State) (clean : HasCleanDisk new → HasCleanDisk old) (was_open : HasCleanDisk new → IsTrue new.is_open → IsTrue old.is_open) where
  pub knows_left : (tells : Bool) → (HasCleanDisk new → IsTrue new.is_open → Keeps old new) → Knows tells supposed old → Knows tells supposed new
  knows_left false keeps k = tt
  knows_left true keeps k = λ so c o. let r = k so (clean c) (was_open c o) in (r.0, keeps c o r.0 r.1)

  pub knows_made : (tells : Bool) (entry : ℕ) → (HasCleanDisk new → Adds old new entry) → Knows tells supposed old → Knows tells supposed new
  knows_made false entry adds k = tt
  knows_made true entry adds k = λ so c o. let r = k so (clean c) (was_open c o) in (with_entry entry r.0, adds c r.0 r.1)

-- as it was opened: the table, or none
pub knows_opened : (supposed : Type 0) (tells : Bool) (old mid new : State) (loaded : List ℕ) → (HasCleanDisk new → HasCleanDisk mid) → (HasCleanDisk mid → Opens old mid) → (HasCleanDisk new → Loads mid new loaded) → (tells ≡ true → supposed → HasCleanDisk old → HasAny old) → (HasCleanDisk mid → HasCleanDisk old) → Knows tells supposed new
knows_opened supposed false old mid new loaded late opens loads any before = tt
knows_opened supposed true old mid new loaded late opens loads any before = λ so c o. at (opens (late c)) (loads c) (any refl so (before (late c)))
  where
    at : Opens old mid → Loads mid new loaded → HasAny old → (all : List ℕ) × HoldsMarks new all
    at o l (inl h) = (h.0, (l h.0 (o.0 h.0 h.1)).1)
    at o l (inr blank) = ([], (l [] (o.1 blank)).1)

-- a reopening that read the marks and then made the doubtful one
pub reopened_written : {D : Type 0} (tells : Keeping D → List ℕ → Type 0) (old mid new : Keeping D) (r : Result (Unit {0}) KeeperRefusal) (it : DoubtfulMark) → old.doubt ≡ Some it → mid.doubt ≡ old.doubt
    → MarksStay (tells old) (tells mid) → OnOk r (MarksWith it.entry (tells mid) (tells new)) → OnOk r (new ≡ record mid { connection = new.connection; doubt = None }) → OnErr r (MarksStay (tells mid) (tells new)) → OnErr r (new ≡ record mid { connection = new.connection })
    → Reopened r (tells old) (doubtful old) (tells new) (doubtful new)
reopened_written tells old mid new (Ok unit) it is same read made none left kept = (
  λ all t.
      let b = made all t in
      (b.0, read b.0 b.1, inr (b.2 ∙ ap (λ (d : Option DoubtfulMark). with_doubt (option_map (λ (x : DoubtfulMark). x.entry) d) b.0) (sym is))),
  ap (λ k. doubtful k) none,
)
reopened_written tells old mid new (Err refusal) it is same read made none left kept =
    (λ all t. read all (left all t), ap (λ k. doubtful k) kept ∙ ap (λ (d : Option DoubtfulMark). option_map (λ (x : DoubtfulMark). x.entry) d) same)

-- ---- over what a call answers

-- a load leaves the marks, whatever it answers
pub kept_read : {T E : Type 0} (old new : State) (r : Result T E) (items : T → List ℕ) → IfOk r (λ loaded. Loads old new (items loaded)) → OnErr r (Keeps old new) → Keeps old new
kept_read old new (Ok loaded) items loads keeps = λ marks h. (loads marks h).1
kept_read old new (Err e) items loads keeps = keeps

-- the entries that were read from what the select shows are the marks
read_back : (mark entry : ℕ) → entry_read (shown_of mark) ≡ Some entry → entry ≡ mark
read_back mark entry h = number_same (2 ^ 32) mark entry h

pub all_back : (marks read : List ℕ) → map (λ (entry : ℕ). Some entry) read ≡ map entry_read (map shown_of marks) → read ≡ marks
all_back [] [] h = refl
all_back [] (entry ∷ read) h = absurd cc
all_back (mark ∷ marks) [] h = absurd cc
all_back (mark ∷ marks) (entry ∷ read) h =
    let first : entry_read (shown_of mark) ≡ Some entry = cc in
    let rest : map (λ (entry : ℕ). Some entry) read ≡ map entry_read (map shown_of marks) = cc in
    let a = read_back mark entry first in
    let b = all_back marks read rest in
    rw (a, b)

kept_is : (entry : ℕ) (keep : Bool) (marks : List ℕ) → keep ≡ true → kept (Some (record { entry = entry; keep = keep })) marks ≡ marks ++ entry ∷ []
kept_is entry true marks h = refl
kept_is entry false marks h = absurd cc

-- the marks were read, and then the one that is to be kept was made
pub settled : (old mid new : State) (doubt : Option DoubtfulMark) (it : DoubtfulMark) (loaded : List ℕ) → doubt ≡ Some it → it.keep ≡ true → Loads old mid loaded → Adds mid new it.entry → Settles old new doubt
settled old mid new doubt it loaded is keep loads adds marks holds =
    let made = adds marks (loads marks holds).1 in
    subst (λ d. HoldsMarks new (kept d marks)) (sym is) (subst (HoldsMarks new) (sym (kept_is it.entry it.keep marks keep)) made)
