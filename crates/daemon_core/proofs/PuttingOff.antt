-- A request that is put off, and the keeper that stores its row.
use Rattle.std.proofs.Common.{◌≡◌, ◌≢◌, ℕ, ◌<◌, ◌≤◌, ◌+◌, Bool, true, false, List, [], ◌∷◌, zero, suc, length, map, get_or, refl, ap, sym, ◌∙◌, subst, arith, ◌⊎◌, inl, inr}
use Rattle.std.specs.Prelude.{Option, Some, None, nat_le, All}
use Rattle.std.specs.List.{list_any}
use Rattle.std.specs.Str.{bytes_eq}
use Rattle.std.proofs.lemmas.Bool.{leb-false}
use Rattle.fw_facts.specs.declared.seen.Seen.{Seen}
use Rattle.history_keeper.proofs.Following.{list_any-map}
use Rattle.history_keeper.specs.Changes.{Suits, changed}
use Rattle.history_keeper.specs.Keepers.{StillTold, ToldWith}
use Rattle.history_keeper.specs.Signs.{KeeperSigns}
use Rattle.history_keeper.specs.declared.change.Change.{Change}
use Rattle.history_keeper.specs.declared.row.Row.{Row}
use Rattle.history_keeper.specs.declared.row.RowState.{RowState}
use Rattle.update_log.proofs.Accepts.{accepts-target}
use Rattle.core_state.proofs.CoreLegal.{decided-other}
use Rattle.update_log.proofs.Lists.{by_test}
use Rattle.update_log.proofs.Openings.{bytes-self}
use Rattle.update_log.proofs.RowsKept.{no-tag, not_kept, is_kept}
use Rattle.core_state.specs.Core.{Core}
use Rattle.core_state.specs.CoreSteps.{addition_on}
use Rattle.update_log.specs.Holding.{live}
use Rattle.update_log.specs.Known.{Basis, Fate, Target, addition, doubt, known, new_row, row_with_tag, rows, rows_by, target, views}
use Rattle.update_log.specs.Legal.{IsFree, ScheduleAllowed, ScheduleAnswered, next_entry}
use Rattle.update_log.specs.Pasts.{boots, is_keeper_fault, meets_fault, off, time_of}
use Rattle.update_log.specs.Verdicts.{Case, case_of, decided, verdict, where_so}
use Rattle.update_log.specs.declared.answer.ClaimAnswer.{ClaimAnswer}
use Rattle.update_log.specs.declared.decision.Decision.{Decision}
use Rattle.update_log.specs.declared.decision.Stage.{Stage}
use Rattle.update_log.specs.declared.event.Event.{Event}
use Rattle.update_log.specs.declared.refusal.Refusal.{Refusal}
use Rattle.update_log.specs.declared.request.Request.{Request}
use Rattle.daemon_core.specs.HouseLog.{Appended, IsAllowedSo, IsHouseLog, IsLegalSo, Runs}
use Rattle.daemon_core.specs.Owed.{owed}
use Rattle.daemon_core.proofs.HouseLogKept.{appended-past, legal-next}
use Rattle.daemon_core.proofs.OwedLaws.{owed-cut}
use Rattle.daemon_core.specs.House.{IsHouse}
use Rattle.daemon_core.specs.Housed.{basis_in, HouseLogView, Housed, past, past_in}
use Rattle.daemon_core.specs.Keeping.{HasRows, KeepsSo, keeper_faults}
use Rattle.daemon_core.specs.PutOff.{IsAccept}
use Rattle.daemon_core.proofs.BoardsQuiet.{kept-so, quiet-board}
use Rattle.daemon_core.proofs.HouseKept.{house-next}
use Rattle.daemon_core.proofs.KeptSo.{so-clear, so-has}
use Rattle.daemon_core.proofs.PlacesKept.{place-same}

-- ---- the keeper

-- A commit that went well.
pub keeps-made : {K : Type 0} (signs : KeeperSigns K) (old new : K) (all : List Row) (change : Change) → HasRows signs old all None → ToldWith change (signs.tells old) (signs.tells new) × (signs.doubt new ≡ None) → HasRows signs new (changed change all) None
keeps-made signs old new all change h c =
    record {
      rows_are = λ now t. let before = c.0 now t in before.2 ∙ ap (λ (l : List Row). changed change l) (h.rows_are before.0 before.1);
      doubt_is = c.1;
    }

-- One that failed, or wanted for memory.
pub keeps-left : {K : Type 0} (signs : KeeperSigns K) (old new : K) (all : List Row) (left : Option Change) → HasRows signs old all None → StillTold (signs.tells old) (signs.tells new) × (signs.doubt new ≡ left) → HasRows signs new all left
keeps-left signs old new all left h c = record { rows_are = λ now t. h.rows_are now (c.0 now t); doubt_is = c.1 }

pub suits-told : (o : List Row → Type 0) (all : List Row) (change : Change) → ((x : List Row) → o x → x ≡ all) → Suits change all → (x : List Row) → o x → Suits change x
suits-told o all change h s x t = subst (λ (l : List Row). Suits change l) (sym (h x t)) s

-- ---- the row

any-false : {X : Type 0} (p : X → Bool) (xs : List X) (i : ℕ) (d : X) → list_any p xs ≡ false → i < length xs → p (get_or xs i d) ≡ false
any-false p [] i d h l = absurd (omega arith)
any-false p (x ∷ xs) zero d h l = by_test (p x) _ (λ t. let e : true ≡ false = rw t at h in cc) (λ f. f)
any-false p (x ∷ xs) (suc i) d h l = by_test (p x) _ (λ t. let e : true ≡ false = rw t at h in cc) (λ f. any-false p xs i d (rw f at h) (omega arith))

pub new-tag : (rows : List Row) (row : Row) → list_any (bytes_eq row.tag) (map (λ r. r.tag) rows) ≡ false → All (λ other. other.tag ≢ row.tag) rows
new-tag rows row h = λ i d l e.
    let f : bytes_eq row.tag (get_or rows i d).tag ≡ false = any-false (λ (r : Row). bytes_eq row.tag r.tag) rows i d (sym (list_any-map (λ (r : Row). r.tag) (bytes_eq row.tag) rows) ∙ h) l in
    let g : true ≡ false = sym (bytes-self row.tag) ∙ ap (λ (t : List ℕ). bytes_eq row.tag t) (sym e) ∙ f in
    cc

pub fits-rows : (n : ℕ) → where_so (nat_le 65536 n) Refusal.RowsFull ≡ None → n < 65536
fits-rows n h = by_test (nat_le 65536 n) (n < 65536) (λ t. let e : Some Refusal.RowsFull ≡ None = rw t at h in cc) (λ f. leb-false 65536 n f)

-- What there is where a request is put off and accepted.
pub record OffFacts (basis : Basis) (past : List Event) (client : ℕ) (request : Request) (t : Target) : Type 0 where
  pub found : target basis.facts (views basis past) request ≡ Some t
  pub few : length (rows basis past) < 65536
  pub suits : Suits (Change.Add (new_row (length (rows basis past) + 1) (time_of past) client request RowState.Pending t)) (rows basis past)

pub off-facts : (basis : Basis) (past : List Event) (client : ℕ) (request : Request) → IsAccept (verdict basis past client request Stage.Schedule) → (t : Target) × OffFacts basis past client request t
off-facts basis past client request a =
    let c : Case = case_of basis past client request Stage.Schedule in
    let h = accepts-target c a.0 a.2 a.1 a.3 in
    let t : Target = h.0 in
    let k : row_with_tag (rows basis past) request.tag ≡ None = not_kept c (ap is_kept a.3) in (
      t,
      record {
        found = h.1.found;
        few = fits-rows (length (rows basis past)) h.1.none.is_rows_full;
        suits = (refl, new-tag (rows basis past) (new_row (length (rows basis past) + 1) (time_of past) client request RowState.Pending t) (no-tag (rows basis past) request.tag k));
      },
    )

-- The row that is added, over what is kept.
pub addition-same : (basis : Basis) (core : Core) (past : List Event) (client : ℕ) (request : Request) → core.rows ≡ rows basis past → core.views ≡ views basis past
    → addition_on basis.facts (time_of past) core.views core.rows client request RowState.Pending ≡ addition basis.facts (time_of past) (live past) (known basis past) client request RowState.Pending
addition-same basis core past client request r v = rw (r, v) refl

pub addition-is : (basis : Basis) (past : List Event) (client : ℕ) (request : Request) (t : Target) → target basis.facts (views basis past) request ≡ Some t
    → addition basis.facts (time_of past) (live past) (known basis past) client request RowState.Pending ≡ Some (Change.Add (new_row (length (rows basis past) + 1) (time_of past) client request RowState.Pending t))
addition-is basis past client request t e = rw e refl

-- ---- the house

-- No decision names the keeper.
pub refusal-other : (c : Case) (refusal : Refusal) → decided c ≡ Decision.Refused refusal → is_keeper_fault refusal ≡ false
refusal-other c refusal e = let h = decided-other c in rw e at h

-- A schedule is allowed whatever the plans are.
pub off-allowed : (basis : Basis) (first : List Seen) (past : List Event) (client : ℕ) (request : Request) (answer : ClaimAnswer) → ScheduleAllowed basis past client request answer → IsAllowedSo basis first past (Event.Schedule client request answer)
off-allowed basis first past client request answer a = λ plans. a

-- A house, after a request was put off, or might have been.
pub house-off : {K : Type 0} (signs : KeeperSigns K) (client : ℕ) (request : Request) (answer : ClaimAnswer) (old : Housed K) (new : HouseLogView) (keeper : K) → IsHouse signs old → IsHouseLog old.house_log → IsHouseLog new
    → Appended client (Event.Schedule client request answer) old.house_log new → IsLegalSo (basis_in old.house_log) old.house_log.first (Event.Schedule client request answer ∷ past old) → old.house_log.loaded ≡ true
    → HasRows signs keeper (rows (basis_in old.house_log) (Event.Schedule client request answer ∷ past old)) (doubt (basis_in old.house_log) (Event.Schedule client request answer ∷ past old))
    → IsHouse signs (record old { house_log = new; keeper = keeper })
house-off signs client request answer old new keeper h o k a l loaded kept =
    house-next signs client (Event.Schedule client request answer) old (record old { house_log = new; keeper = keeper }) h a k
    (record {
      count = refl;
      places = λ number place e.
          place-same (basis_in old.house_log) old.house_log.first (past old) (Event.Schedule client request answer ∷ past old) number place
          (quiet-board (basis_in old.house_log) old.house_log.first (past old) (Event.Schedule client request answer) o.stands.history l number refl refl refl refl refl refl) (h.places number place e);
      loaded = loaded;
      kept = so-has old.house_log.reopened signs keeper (rows (basis_in old.house_log) (Event.Schedule client request answer ∷ past old)) (doubt (basis_in old.house_log) (Event.Schedule client request answer ∷ past old)) kept;
      capacity = refl;
      free = h.free;
    })

-- What there is over the house log.
pub accept-over : (a b : HouseLogView) (client : ℕ) (request : Request) → a ≡ b → IsAccept (verdict (basis_in b) (past_in b) client request Stage.Schedule) → IsAccept (verdict (basis_in a) (past_in a) client request Stage.Schedule)
accept-over a b client request e h = subst (λ (x : HouseLogView). IsAccept (verdict (basis_in x) (past_in x) client request Stage.Schedule)) (sym e) h

pub few-over : (a : HouseLogView) (client : ℕ) (request : Request) → IsHouseLog a → IsAccept (verdict (basis_in a) (past_in a) client request Stage.Schedule) → length a.core.rows < 65536
few-over a client request k h =
    let f = (off-facts (basis_in a) (past_in a) client request h).1.few in
    let e = ap length k.stands.rows in
    omega (arith, f, e)

pub suits-over : (a : HouseLogView) (client : ℕ) (request : Request) (row : Row) → IsHouseLog a → IsAccept (verdict (basis_in a) (past_in a) client request Stage.Schedule)
    → addition_on a.facts (time_of (past_in a)) a.core.views a.core.rows client request RowState.Pending ≡ Some (Change.Add row) → Suits (Change.Add row) a.core.rows
suits-over a client request row k h e =
    let o = off-facts (basis_in a) (past_in a) client request h in
    let t : Target = o.0 in
    let new : Row = new_row (length (rows (basis_in a) (past_in a)) + 1) (time_of (past_in a)) client request RowState.Pending t in
    let s : Some (Change.Add new) ≡ Some (Change.Add row) =
    sym (addition-is (basis_in a) (past_in a) client request t o.1.found) ∙ sym (addition-same (basis_in a) a.core (past_in a) client request k.stands.rows k.stands.views) ∙ e in
    let r : new ≡ row = cc in
    subst (λ (x : List Row). Suits (Change.Add row) x) (sym k.stands.rows) (subst (λ (x : Row). Suits (Change.Add x) (rows (basis_in a) (past_in a))) r o.1.suits)

-- In a boot that runs, the log is in no doubt, and the keeper has its rows.
pub no-doubt : (a : HouseLogView) → IsHouseLog a → off (past_in a) ≡ false → doubt (basis_in a) (past_in a) ≡ None
no-doubt a k o = (kept-so (basis_in a) a.first (past_in a) k.stands.history k.legal).rows_kept.doubt_off o

pub house-plain : {K : Type 0} (signs : KeeperSigns K) (h : Housed K) (b : HouseLogView) → h.house_log ≡ b → IsHouse signs h → IsHouseLog h.house_log → b.loaded ≡ true → off (past_in b) ≡ false → HasRows signs h.keeper h.house_log.core.rows None
house-plain signs h b e w k l o =
    let l' : h.house_log.loaded ≡ true = ap (λ (x : HouseLogView). x.loaded) e ∙ l in
    let o' : off (past h) ≡ false = ap (λ (x : HouseLogView). off (past_in x)) e ∙ o in
    so-clear h.house_log.reopened signs h.keeper h.house_log.core.rows
    (subst (λ (x : Option Change). KeepsSo h.house_log.reopened signs h.keeper h.house_log.core.rows x) (k.stands.doubt ∙ no-doubt h.house_log k o') (w.kept l'))

-- What was answered may come.
pub off-legal : (a b : HouseLogView) (client : ℕ) (request : Request) (answer : ClaimAnswer) → a ≡ b → IsHouseLog a → Runs b → 0 < boots (past_in b) → IsFree (past_in b) client → IsAccept (verdict (basis_in b) (past_in b) client request Stage.Schedule)
    → (answer ≡ ClaimAnswer.Entry (length a.core.rows + 1)) ⊎ (answer ≡ ClaimAnswer.Refused Refusal.KeeperFault) → IsLegalSo (basis_in a) a.first (Event.Schedule client request answer ∷ past_in a)
off-legal a b client request answer e k r n f h w =
    let h' = accept-over a b client request e h in
    let r' : Runs a = subst Runs (sym e) r in
    let next : length a.core.rows ≡ length (rows (basis_in a) (past_in a)) = ap length k.stands.rows in
    legal-next (basis_in a) a.first (past_in a) (Event.Schedule client request answer) k.legal
    (record { booted = λ _. subst (λ (x : HouseLogView). 0 < boots (past_in x)) (sym e) n; on = λ _. r'.on; below = λ _. r'.below })
    (off-allowed (basis_in a) a.first (past_in a) client request answer
    (record {
      free = subst (λ (x : HouseLogView). IsFree (past_in x) client) (sym e) f;
      answer_is = subst (λ (d : Decision). ScheduleAnswered (next_entry (basis_in a) (past_in a)) d answer) (sym h'.3) (at w next);
    }))
  where
    at : (answer ≡ ClaimAnswer.Entry (length a.core.rows + 1)) ⊎ (answer ≡ ClaimAnswer.Refused Refusal.KeeperFault) → length a.core.rows ≡ length (rows (basis_in a) (past_in a)) → (answer ≡ ClaimAnswer.Entry (next_entry (basis_in a) (past_in a))) ⊎ (answer ≡ ClaimAnswer.Refused Refusal.KeeperFault)
    at (inl x) next = inl (x ∙ ap (λ (n : ℕ). ClaimAnswer.Entry (n + 1)) next)
    at (inr x) next = inr x

-- The keeper after the row was stored, and after that failed.
pub kept-made : {K : Type 0} (signs : KeeperSigns K) (a : HouseLogView) (client : ℕ) (request : Request) (entry : ℕ) (row : Row) (keeper : K) → IsHouseLog a → off (past_in a) ≡ false
    → addition a.facts (time_of (past_in a)) (live (past_in a)) (known (basis_in a) (past_in a)) client request RowState.Pending ≡ Some (Change.Add row) → HasRows signs keeper (changed (Change.Add row) a.core.rows) None
    → HasRows signs keeper (rows (basis_in a) (Event.Schedule client request (ClaimAnswer.Entry entry) ∷ past_in a)) (doubt (basis_in a) (Event.Schedule client request (ClaimAnswer.Entry entry) ∷ past_in a))
kept-made signs a client request entry row keeper k o e h =
    let all : List Row = rows (basis_in a) (past_in a) in
    let r : changed (Change.Add row) a.core.rows ≡ rows_by Fate.Made (addition a.facts (time_of (past_in a)) (live (past_in a)) (known (basis_in a) (past_in a)) client request RowState.Pending) all =
    ap (λ (x : List Row). changed (Change.Add row) x) k.stands.rows ∙ sym (ap (λ (x : Option Change). rows_by Fate.Made x all) e) in
    record { rows_are = subst (λ (x : List Row). (y : List Row) → signs.tells keeper y → y ≡ x) r h.rows_are; doubt_is = h.doubt_is ∙ sym (no-doubt a k o) }

pub kept-doubted : {K : Type 0} (signs : KeeperSigns K) (a : HouseLogView) (client : ℕ) (request : Request) (row : Row) (keeper : K) → IsHouseLog a
    → addition a.facts (time_of (past_in a)) (live (past_in a)) (known (basis_in a) (past_in a)) client request RowState.Pending ≡ Some (Change.Add row) → HasRows signs keeper a.core.rows (Some (Change.Add row))
    → HasRows signs keeper (rows (basis_in a) (Event.Schedule client request (ClaimAnswer.Refused Refusal.KeeperFault) ∷ past_in a)) (doubt (basis_in a) (Event.Schedule client request (ClaimAnswer.Refused Refusal.KeeperFault) ∷ past_in a))
kept-doubted signs a client request row keeper k e h =
    record { rows_are = subst (λ (x : List Row). (y : List Row) → signs.tells keeper y → y ≡ x) k.stands.rows h.rows_are; doubt_is = h.doubt_is ∙ sym e }

-- The room that is owed doesn't grow.
pub owed-entry : (past : List Event) (client : ℕ) (request : Request) (entry : ℕ) → owed (Event.Schedule client request (ClaimAnswer.Entry entry) ∷ past) ≤ owed past
owed-entry past client request entry = at (owed past)
  where
    at : (n : ℕ) → n ≤ n
    at n = omega arith

pub owed-faulted : (past : List Event) (client : ℕ) (request : Request) → owed (Event.Schedule client request (ClaimAnswer.Refused Refusal.KeeperFault) ∷ past) ≤ owed past
owed-faulted past client request = owed-cut past

-- An event that met no fault.
pub quiet-faults : (client : ℕ) (event : Event) (a b : HouseLogView) → Appended client event a b → meets_fault event ≡ false → keeper_faults (past_in b) ≡ keeper_faults (past_in a)
quiet-faults client event a b p m = ap keeper_faults (appended-past client event a b p) ∙ rw m refl
