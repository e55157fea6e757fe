-- A house after the end of a step.
use Rattle.std.proofs.Common.{◌≡◌, ◌≢◌, ℕ, zero, suc, ◌<◌, ◌≤◌, ◌+◌, Bool, true, false, List, [], ◌∷◌, ◌++◌, length, drop, refl, ap, sym, ◌∙◌, subst, arith, ◌⊎◌, inl, inr, le_refl}
use Rattle.std.proofs.lemmas.Bool.{eqb-true}
use Rattle.std.proofs.lemmas.List.{length-append}
use Rattle.std.proofs.lemmas.Option.{slice_get_within}
use Rattle.std.specs.Prelude.{Option, Some, None, slice_get, slice_set, Result, ◌==◌, find, option_and_then, unwrap_or}
use Rattle.std.specs.List.{list_any}
use Rattle.daemon_core.proofs.BootHouse.{prefix-shorter, marks-few}
use Rattle.fw_facts.specs.declared.seen.Seen.{Seen}
use Rattle.emulated_boards.specs.Boards.{BoardState}
use Rattle.emulated_boards.specs.Conditions.{view_of}
use Rattle.emulated_boards.specs.declared.fault.BoardFault.{BoardFault}
use Rattle.emulated_boards.specs.declared.mark.Mark.{Mark}
use Rattle.history_keeper.specs.declared.row.Row.{Row}
use Rattle.history_keeper.specs.declared.change.Change.{Change}
use Rattle.history_keeper.specs.Signs.{KeeperSigns}
use Rattle.update_log.proofs.Lists.{by_test, eqb-other, eqb-self, find-passes}
use Rattle.update_log.specs.declared.event.Event.{Event}
use Rattle.update_log.specs.declared.event.Op.{Op}
use Rattle.update_log.specs.declared.facts.Facts.{Facts}
use Rattle.update_log.specs.declared.live.LiveEntry.{LiveEntry}
use Rattle.update_log.specs.Boards.{board_with}
use Rattle.update_log.specs.Holding.{live, live_entry}
use Rattle.update_log.specs.Known.{Basis, board_of, doubt, is_board_of, row_of, rows}
use Rattle.update_log.specs.Pasts.{boots, off}
use Rattle.update_log.specs.Shows.{IsPrefix, digest_of, marks, told}
use Rattle.daemon_core.specs.HouseLog.{Appended, IsAllowedSo, IsHouseLog, Runs}
use Rattle.daemon_core.specs.Boards.{BoardIsHome, PlaceStands, is_out}
use Rattle.daemon_core.specs.House.{IsHouse}
use Rattle.daemon_core.specs.Housed.{basis_in, campaign_in, HouseLogView, Housed, Place, past, past_in}
use Rattle.daemon_core.specs.Keeping.{KeepsSo}
use Rattle.daemon_core.specs.Owed.{owed}
use Rattle.daemon_core.specs.Returns.{SameBoards, StepEnds, new_marks, number_of, place_at}
use Rattle.daemon_core.proofs.ClaimAlone.{on-board}
use Rattle.daemon_core.proofs.ClaimBoards.{end-place_other}
use Rattle.daemon_core.proofs.ClaimHouse.{IsReady, runs-takes, spent-ready}
use Rattle.daemon_core.proofs.ClaimOpen.{open-entry_live}
use Rattle.daemon_core.proofs.HouseKept.{house-next}
use Rattle.daemon_core.proofs.Owed.{owed-cut_live}

-- What stands at a place of a list where one place was set.
pub get-set : {X : Type 0} (xs : List X) (n m : ℕ) (v x : X) → slice_get (slice_set xs n v) m ≡ Some x → ((m ≡ n) × (v ≡ x)) ⊎ ((m ≢ n) × (slice_get xs m ≡ Some x))
get-set [] n m v x e = cc
get-set (y ∷ ys) zero zero v x e = inl (refl, (let s : Some v ≡ Some x = e in cc))
get-set (y ∷ ys) zero (suc m) v x e = inr (λ s. let b : suc m ≡ 0 = s in absurd (omega arith), e)
get-set (y ∷ ys) (suc n) zero v x e = inr (λ s. let b : 0 ≡ suc n = s in absurd (omega arith), e)
get-set (y ∷ ys) (suc n) (suc m) v x e = later (get-set ys n m v x e)
  where
    later : ((m ≡ n) × (v ≡ x)) ⊎ ((m ≢ n) × (slice_get ys m ≡ Some x)) → ((suc m ≡ suc n) × (v ≡ x)) ⊎ ((suc m ≢ suc n) × (slice_get (y ∷ ys) (suc m) ≡ Some x))
    later (inl h) = inl (ap suc h.0, h.1)
    later (inr h) = inr (λ s. let b : suc m ≡ suc n = s in h.0 (omega arith), h.1)

pub length-set : {X : Type 0} (xs : List X) (n : ℕ) (v : X) → length (slice_set xs n v) ≡ length xs
length-set [] n v = refl
length-set (y ∷ ys) zero v = refl
length-set (y ∷ ys) (suc n) v = ap suc (length-set ys n v)

-- Each place has the board that it had, where marks were told.
pub boards-told : (places : List Place) (n marks : ℕ) → SameBoards places (slice_set places n (record (place_at places n) { told = marks }))
boards-told [] n marks = refl
boards-told (p ∷ ps) zero marks = refl
boards-told (p ∷ ps) (suc n) marks = ap (λ (bs : List (Option BoardState)). p.board ∷ bs) (boards-told ps n marks)

pub place-found : (places : List Place) (n : ℕ) → n < length places → slice_get places n ≡ Some (place_at places n)
place-found [] n h = absurd (omega arith)
place-found (p ∷ ps) zero h = refl
place-found (p ∷ ps) (suc n) h = place-found ps n (omega arith)

-- where a live entry is on a board, the board is out
pub any-found : (p : LiveEntry → Bool) (entries : List LiveEntry) (entry : ℕ) (l : LiveEntry) → find (λ x. x.entry == entry) entries ≡ Some l → p l ≡ true → list_any p entries ≡ true
any-found p [] entry l f h = cc
any-found p (x ∷ xs) entry l f h =
    by_test (p x) _
    (λ t. rw t refl)
    (λ t. by_test (x.entry == entry) _
    (λ u. let f' : Some x ≡ Some l = rw u at f in let s : x ≡ l = cc in let bad : p x ≡ true = ap p s ∙ h in cc)
    (λ u. rw t (any-found p xs entry l (rw u at f) h)))

pub out-own : (basis : Basis) (past : List Event) (number entry : ℕ) (l : LiveEntry) → live_entry past entry ≡ Some l → is_board_of basis.facts (rows basis past) entry number ≡ true → is_out basis past number ≡ true
out-own basis past number entry l f h =
    let same : l.entry ≡ entry = eqb-true l.entry entry (find-passes (λ x. x.entry == entry) (live past) l f) in
    any-found (λ x. is_board_of basis.facts (rows basis past) x.entry number) (live past) entry l f (ap (λ (e : ℕ). is_board_of basis.facts (rows basis past) e number) same ∙ h)

pub own-board : (facts : Facts) (all : List Row) (entry number : ℕ) → board_of facts all entry ≡ Some number → is_board_of facts all entry number ≡ true
own-board facts all entry number e = rw e (eqb-self number)

pub other-number : (facts : Facts) (all : List Row) (entry number other : ℕ) → board_of facts all entry ≡ Some number → other ≢ number → is_board_of facts all entry other ≡ false
other-number facts all entry number other e n = rw e (eqb-other number other (λ s. n (sym s)))

-- a board's number is that of a sheet
pub number-within : (facts : Facts) (all : List Row) (entry number : ℕ) → board_of facts all entry ≡ Some number → number < length facts.sheets
number-within facts all entry number e = at (row_of all entry) e
  where
    at : (o : Option Row) → option_and_then (λ r. board_with facts r.device) o ≡ Some number → number < length facts.sheets
    at None e = cc
    at (Some r) e = let b = on-board facts r.device number e in slice_get_within facts.sheets number b.board.sheet b.sheet

-- The place of the board of the step that ended.
pub end-place_own : (basis : Basis) (first : List Seen) (past : List Event) (client entry : ℕ) (op : Op) (outcome : Result (Unit {0}) BoardFault) (ms : List Mark) (shown : Seen) (number : ℕ) (place : Place) (l : LiveEntry) (journal : List Mark) → live_entry past entry ≡ Some l → is_board_of basis.facts (rows basis past) entry number ≡ true → journal ≡ told basis past number ++ ms → PlaceStands basis first past number place → PlaceStands basis first (Event.End client entry op outcome ms shown ∷ past) number (record place { told = length journal })
end-place_own basis first past client entry op outcome ms shown number place l journal f own j p =
    let out : is_out basis past number ≡ true = out-own basis past number entry l f own in
    let new : told basis (Event.End client entry op outcome ms shown ∷ past) number ≡ told basis past number ++ ms = rw own refl in
    record { told = ap length (j ∙ sym new); home = at place.board refl out }
  where
    at : (o : Option BoardState) → place.board ≡ o → is_out basis past number ≡ true → BoardIsHome basis first (Event.End client entry op outcome ms shown ∷ past) number place.board
    at None e out = subst (BoardIsHome basis first (Event.End client entry op outcome ms shown ∷ past) number) (sym e) out
    at (Some b) e out =
        let h : BoardIsHome basis first past number (Some b) = subst (BoardIsHome basis first past number) e p.home in
        let bad : true ≡ false = sym out ∙ h.0 in cc

pub few-told : (op : Op) (entry : ℕ) (digest : List ℕ) (ms : List Mark) → IsPrefix ms (marks op entry digest) → length ms ≤ 2
few-told op entry digest ms p = let a = prefix-shorter ms (marks op entry digest) p in let b = marks-few op entry digest in omega (arith, a, b)

-- The step's end over a house log.
abbrev pub EndsIn : HouseLogView → ℕ → ℕ → Op → Result (Unit {0}) BoardFault → ℕ → BoardState → Type 0
EndsIn a client entry op outcome number b = StepEnds (basis_in a) a.first (past_in a) client entry op outcome number b

abbrev pub marks_in : HouseLogView → ℕ → BoardState → List Mark
marks_in a entry b = new_marks (basis_in a) (past_in a) entry b.journal

abbrev pub end_event : HouseLogView → ℕ → ℕ → Op → Result (Unit {0}) BoardFault → BoardState → Event
end_event a client entry op outcome b = Event.End client entry op outcome (marks_in a entry b) (view_of b.condition)

end-allowed : (a : HouseLogView) (client entry : ℕ) (op : Op) (outcome : Result (Unit {0}) BoardFault) (number : ℕ) (b : BoardState) → EndsIn a client entry op outcome number b → IsAllowedSo (basis_in a) a.first (past_in a) (end_event a client entry op outcome b)
end-allowed a client entry op outcome number b s = λ plans. s.allowed

pub end-ready : (a : HouseLogView) (client entry : ℕ) (op : Op) (outcome : Result (Unit {0}) BoardFault) (number : ℕ) (b : BoardState) → IsHouseLog a → Runs a → 0 < boots (past_in a) → EndsIn a client entry op outcome number b → IsReady a (end_event a client entry op outcome b)
end-ready a client entry op outcome number b k r n s =
    spent-ready a (end_event a client entry op outcome b) k
    (runs-takes a (end_event a client entry op outcome b) r n refl)
    (end-allowed a client entry op outcome number b s)
    refl (le_refl (length (rows (basis_in a) (past_in a))))

-- the live entry of the step
pub end-live : (a : HouseLogView) (client entry : ℕ) (op : Op) (outcome : Result (Unit {0}) BoardFault) (number : ℕ) (b : BoardState) → IsHouseLog a → Runs a → EndsIn a client entry op outcome number b → (l : LiveEntry) × (live_entry (past_in a) entry ≡ Some l)
end-live a client entry op outcome number b k r s =
    let w = k.legal in open-entry_live (campaign_in a w.0) (past_in a) entry (record { client = client; entry = entry; op = op }) w.1 r.on s.allowed.open_is

-- After the end of a step.
pub house-ended : {K : Type 0} (signs : KeeperSigns K) (client entry : ℕ) (op : Op) (outcome : Result (Unit {0}) BoardFault) (number : ℕ) (b : BoardState) (old : Housed K) (new : HouseLogView) → IsHouse signs old → IsHouseLog old.house_log → IsHouseLog new → Appended client (end_event old.house_log client entry op outcome b) old.house_log new → old.house_log.loaded ≡ true → Runs old.house_log → EndsIn old.house_log client entry op outcome number b
    → IsHouse signs (record old { house_log = new; places = slice_set old.places number (record (place_at old.places number) { told = length b.journal }) })
house-ended signs client entry op outcome number b old new h o k a loaded r s =
    house-next signs client (end_event old.house_log client entry op outcome b) old (record old { house_log = new; places = slice_set old.places number (record (place_at old.places number) { told = length b.journal }) }) h a k
    (record {
      count = length-set old.places number (record (place_at old.places number) { told = length b.journal });
      places = λ m place e. at m place (get-set old.places number m (record (place_at old.places number) { told = length b.journal }) place e);
      loaded = loaded;
      kept =
          subst (λ (x : List Row). KeepsSo old.house_log.reopened signs old.keeper x (doubt (basis_in old.house_log) (past old))) o.stands.rows
          (subst (λ (x : Option Change). KeepsSo old.house_log.reopened signs old.keeper old.house_log.core.rows x) o.stands.doubt (h.kept loaded));
      capacity = refl;
      free = h.free;
    })
  where
    within : number < length old.places
    within = (let w = number-within old.house_log.facts (rows (basis_in old.house_log) (past old)) entry number s.board in let e = h.count in omega (arith, w, e))

    at : (m : ℕ) (place : Place) → ((m ≡ number) × (record (place_at old.places number) { told = length b.journal } ≡ place)) ⊎ ((m ≢ number) × (slice_get old.places m ≡ Some place)) → PlaceStands (basis_in old.house_log) old.house_log.first (end_event old.house_log client entry op outcome b ∷ past old) m place
    at m place (inl e) =
        let l = end-live old.house_log client entry op outcome number b o r s in
        let was : PlaceStands (basis_in old.house_log) old.house_log.first (past old) number (place_at old.places number) = h.places number (place_at old.places number) (place-found old.places number within) in
        let own : is_board_of old.house_log.facts (rows (basis_in old.house_log) (past old)) entry number ≡ true = own-board old.house_log.facts (rows (basis_in old.house_log) (past old)) entry number s.board in
        let now : PlaceStands (basis_in old.house_log) old.house_log.first (end_event old.house_log client entry op outcome b ∷ past old) number (record (place_at old.places number) { told = length b.journal }) =
        end-place_own (basis_in old.house_log) old.house_log.first (past old) client entry op outcome (marks_in old.house_log entry b) (view_of b.condition) number (place_at old.places number) l.0 b.journal l.1 own s.journal was in
        subst (λ (n : ℕ). PlaceStands (basis_in old.house_log) old.house_log.first (end_event old.house_log client entry op outcome b ∷ past old) n place) (sym e.0)
        (subst (λ (p : Place). PlaceStands (basis_in old.house_log) old.house_log.first (end_event old.house_log client entry op outcome b ∷ past old) number p) e.1 now)
    at m place (inr e) =
        end-place_other (basis_in old.house_log) old.house_log.first (past old) client entry op outcome (marks_in old.house_log entry b) (view_of b.condition) m place
        (other-number old.house_log.facts (rows (basis_in old.house_log) (past old)) entry number m s.board e.0)
        (h.places m place e.1)

-- What the code reads before the end of a step.
pub record EndPlan (a : HouseLogView) (places : List Place) (entry number n : ℕ) (b : BoardState) : Type 0 where
  pub number_is : n ≡ number
  pub within : n < length places
  pub behind : (place_at places n).told ≤ length b.journal
  pub marks_are : drop (place_at places n).told b.journal ≡ marks_in a entry b
  pub few : length (drop (place_at places n).told b.journal) ≤ 2

pub end-plan : {K : Type 0} (signs : KeeperSigns K) (client entry : ℕ) (op : Op) (outcome : Result (Unit {0}) BoardFault) (number n : ℕ) (b : BoardState) (h : Housed K) → IsHouse signs h → IsHouseLog h.house_log → EndsIn h.house_log client entry op outcome number b
    → n ≡ unwrap_or (board_of h.house_log.facts h.house_log.core.rows entry) 0 → EndPlan h.house_log h.places entry number n b
end-plan signs client entry op outcome number n b h k o s e =
    record {
      number_is = num;
      within = omega (arith, num, within);
      behind = omega (arith, at, long);
      marks_are = marks;
      few = subst (λ (ms : List Mark). length ms ≤ 2) (sym marks) (few-told op entry (digest_of (rows (basis_in h.house_log) (past h)) entry) (marks_in h.house_log entry b) s.allowed.told_is);
    }
  where
    all : board_of h.house_log.facts h.house_log.core.rows entry ≡ Some number
    all = ap (λ (rs : List Row). board_of h.house_log.facts rs entry) o.stands.rows ∙ s.board

    num : n ≡ number
    num = e ∙ ap (λ (x : Option ℕ). unwrap_or x 0) all

    within : number < length h.places
    within = (let w = number-within h.house_log.facts (rows (basis_in h.house_log) (past h)) entry number s.board in let c = k.count in omega (arith, w, c))

    was : PlaceStands (basis_in h.house_log) h.house_log.first (past h) number (place_at h.places number)
    was = k.places number (place_at h.places number) (place-found h.places number within)

    at : (place_at h.places n).told ≡ length (told (basis_in h.house_log) (past h) number)
    at = ap (λ (m : ℕ). (place_at h.places m).told) num ∙ was.told

    long : length (told (basis_in h.house_log) (past h) number) ≤ length b.journal
    long = (let j = ap length s.journal in let l = length-append (told (basis_in h.house_log) (past h) number) (marks_in h.house_log entry b) in omega (arith, j, l))

    own : number_of (basis_in h.house_log) (past h) entry ≡ number
    own = ap (λ (x : Option ℕ). unwrap_or x 0) s.board

    marks : drop (place_at h.places n).told b.journal ≡ marks_in h.house_log entry b
    marks = ap (λ (m : ℕ). drop m b.journal) (at ∙ ap (λ (m : ℕ). length (told (basis_in h.house_log) (past h) m)) (sym own))

-- The event that tells and shows that.
pub end-event_is : (a : HouseLogView) (client entry : ℕ) (op : Op) (outcome : Result (Unit {0}) BoardFault) (b : BoardState) (ms : List Mark) (shown : Seen) → ms ≡ marks_in a entry b → shown ≡ view_of b.condition → Event.End client entry op outcome ms shown ≡ end_event a client entry op outcome b
end-event_is a client entry op outcome b ms shown e f = ap (λ (x : List Mark). Event.End client entry op outcome x shown) e ∙ ap (λ (x : Seen). Event.End client entry op outcome (marks_in a entry b) x) f

-- A cut at the end of a step has room.
pub end-spared : (a b : HouseLogView) (client entry : ℕ) (op : Op) (outcome : Result (Unit {0}) BoardFault) (number : ℕ) (board : BoardState) → a ≡ b → IsHouseLog a → EndsIn b client entry op outcome number board → off (past_in b) ≡ false → owed (Event.Cut ∷ past_in b) + 1 ≤ owed (past_in b)
end-spared a b client entry op outcome number board e k s o =
    let kb : IsHouseLog b = subst IsHouseLog e k in
    let w = kb.legal in
    let l = open-entry_live (campaign_in b w.0) (past_in b) entry (record { client = client; entry = entry; op = op }) w.1 o s.allowed.open_is in
    owed-cut_live (past_in b) entry l.0 o l.1
