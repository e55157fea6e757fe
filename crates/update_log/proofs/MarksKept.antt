-- What each past keeps of the marks that it tells.
use Rattle.std.proofs.Common.{◌≡◌, ℕ, Bool, true, false, not, ◌&&◌, List, [], ◌∷◌, ◌++◌, refl, ap, sym, ◌∙◌, ◌≤◌, ◌+◌, arith, ◌⊎◌, inl, inr, length, subst}
use Rattle.std.proofs.lemmas.Bool.{eqb-true, eq-eqb}
use Rattle.std.specs.Prelude.{Option, Some, None, Result, IfSome, ◌==◌, if◌then◌else◌, option_map, find, filter, slice_get, IsTrue, unwrap_or}
use Rattle.std.specs.List.{AllByRecursion, list_any}
use Rattle.std.specs.Bool.{OnTrue}
use Rattle.emulated_boards.specs.declared.fault.BoardFault.{BoardFault}
use Rattle.emulated_boards.specs.declared.mark.Mark.{Mark}
use Rattle.fw_facts.specs.declared.seen.Seen.{Seen}
use Rattle.history_keeper.specs.declared.row.Row.{Row}
use Rattle.update_log.proofs.HoldsMade.{goes_on-grows}
use Rattle.update_log.proofs.Lists.{All-append, All-find, All-map, by_test, find-passes}
use Rattle.update_log.proofs.RowsKept.{GoesOn, board-fixed, fixed, fixed_row, goes_on-fixed}
use Rattle.update_log.proofs.StepsKept.{OpenKept, StepsKept, not-fresh, open-started}
use Rattle.update_log.proofs.StrokeFacts.{writes}
use Rattle.update_log.proofs.TakenKept.{Taken, TakenKept}
use Rattle.update_log.specs.Holding.{open_steps}
use Rattle.update_log.specs.Known.{Basis, board_of, is_board_of, row_of, rows, seen}
use Rattle.update_log.specs.Legal.{BoardListed, BootAllowed, EndAllowed, open_marks, open_on}
use Rattle.update_log.specs.Once.{AfterStart, HasDigest, Stroke, entry_named, how_many, is_like, is_write, starts_write, strokes}
use Rattle.update_log.specs.Shows.{Campaign, IsPrefix, digest_of, marks, told, told_by, untold_of}
use Rattle.update_log.specs.declared.event.BoardSeen.{BoardSeen}
use Rattle.update_log.specs.declared.event.Event.{Event}
use Rattle.update_log.specs.declared.event.Found.{Found}
use Rattle.update_log.specs.declared.event.Op.{Op}
use Rattle.update_log.specs.declared.facts.BootPlan.{BootPlan}
use Rattle.update_log.specs.declared.facts.Facts.{Facts}
use Rattle.update_log.specs.declared.live.OpenStep.{OpenStep}

pub how_many-append : {X : Type 0} (p : X → Bool) (xs ys : List X) → how_many p (xs ++ ys) ≡ how_many p xs + how_many p ys
how_many-append p [] ys = omega arith
how_many-append p (x ∷ xs) ys =
    let rest : how_many p (xs ++ ys) ≡ how_many p xs + how_many p ys = how_many-append p xs ys in
    by_test (p x) _ (λ t. rw t (omega arith)) (λ t. rw t rest)

pub any-many : {X : Type 0} (p : X → Bool) (xs : List X) → list_any p xs ≡ true → 1 ≤ how_many p xs
any-many p [] h = cc
any-many p (x ∷ xs) h =
    by_test (p x) _ (λ t. rw t (omega arith)) (λ t. let g : list_any p xs ≡ true = rw t at h in rw t (any-many p xs g))

pub find-many : {X : Type 0} (p q : X → Bool) (xs : List X) (x : X) → find p xs ≡ Some x → q x ≡ true → 1 ≤ how_many q xs
find-many p q [] x h t = cc
find-many p q (y ∷ ys) x h t =
    by_test (p y) _
    (λ u. let e : Some y ≡ Some x = rw u at h in let s : y ≡ x = cc in let v : q y ≡ true = ap q s ∙ t in rw v (omega arith))
    (λ u. let rest : 1 ≤ how_many q ys = find-many p q ys x (rw u at h) t in by_test (q y) _ (λ v. rw v (omega arith)) (λ v. rw v rest))

abbrev pub one_where : Bool → ℕ
one_where true = 1
one_where false = 0

abbrev pub is_write_of : ℕ → OpenStep → Bool
is_write_of entry s = (s.entry == entry) && is_write s.op

-- how many writes of an entry are open
abbrev pub open_writes : ℕ → List Event → ℕ
open_writes entry past = how_many (is_write_of entry) (open_steps past)

pub one-like : (entry e : ℕ) (b : Bool) → (b ≡ true → e ≡ entry) → (if b then 1 else 0) ≤ one_where ((entry == e) && true)
one-like entry e false h = omega arith
one-like entry e true h = let t : (entry == e) ≡ true = eq-eqb entry e (sym (h refl)) in rw t (omega arith)

-- the marks of a step name its entry, where it is a write
pub prefix-few : (op : Op) (entry : ℕ) (digest : List ℕ) (told : List Mark) (mark : Mark) (e : ℕ) → IsPrefix told (marks op entry digest) → entry_named mark ≡ Some e → how_many (is_like mark) told ≤ one_where ((entry == e) && is_write op)
prefix-few Op.Prepare entry digest [] mark e p n = omega arith
prefix-few Op.Prepare entry digest (m ∷ ms) mark e p n = absurd p
prefix-few Op.Reload entry digest [] mark e p n = omega arith
prefix-few Op.Reload entry digest (m ∷ ms) mark e p n = absurd p
prefix-few Op.Cleanup entry digest [] mark e p n = omega arith
prefix-few Op.Cleanup entry digest (m ∷ ms) mark e p n = absurd p
prefix-few Op.Detach entry digest [] mark e p n = omega arith
prefix-few Op.Detach entry digest (m ∷ []) mark e p n = rw p.0 (unlike mark)
  where
    unlike : (mark : Mark) → how_many (is_like mark) (Mark.Entered ∷ []) ≤ one_where ((entry == e) && false)
    unlike (Mark.Began x) = omega arith
    unlike (Mark.Ended x d) = omega arith
    unlike Mark.Entered = omega arith
    unlike Mark.Left = omega arith
prefix-few Op.Detach entry digest (m ∷ m' ∷ ms) mark e p n = absurd p.1
prefix-few Op.Attach entry digest [] mark e p n = omega arith
prefix-few Op.Attach entry digest (m ∷ []) mark e p n = rw p.0 (unlike mark)
  where
    unlike : (mark : Mark) → how_many (is_like mark) (Mark.Left ∷ []) ≤ one_where ((entry == e) && false)
    unlike (Mark.Began x) = omega arith
    unlike (Mark.Ended x d) = omega arith
    unlike Mark.Entered = omega arith
    unlike Mark.Left = omega arith
prefix-few Op.Attach entry digest (m ∷ m' ∷ ms) mark e p n = absurd p.1
prefix-few Op.Write entry digest [] mark e p n = omega arith
prefix-few Op.Write entry digest (m ∷ []) mark e p n = rw p.0 (one mark n)
  where
    one : (mark : Mark) → entry_named mark ≡ Some e → how_many (is_like mark) (Mark.Began entry ∷ []) ≤ one_where ((entry == e) && true)
    one (Mark.Began x) n = let s : x ≡ e = cc in one-like entry e (x == entry) (λ t. sym s ∙ eqb-true x entry t)
    one (Mark.Ended x d) n = omega arith
    one Mark.Entered n = omega arith
    one Mark.Left n = omega arith
prefix-few Op.Write entry digest (m ∷ m' ∷ []) mark e p n = rw (p.0, p.1.0) (one mark n)
  where
    one : (mark : Mark) → entry_named mark ≡ Some e → how_many (is_like mark) (Mark.Began entry ∷ Mark.Ended entry digest ∷ []) ≤ one_where ((entry == e) && true)
    one (Mark.Began x) n = let s : x ≡ e = cc in one-like entry e (x == entry) (λ t. sym s ∙ eqb-true x entry t)
    one (Mark.Ended x d) n = let s : x ≡ e = cc in one-like entry e (x == entry) (λ t. sym s ∙ eqb-true x entry t)
    one Mark.Entered n = omega arith
    one Mark.Left n = omega arith
prefix-few Op.Write entry digest (m ∷ m' ∷ m'' ∷ ms) mark e p n = absurd p.1.1

-- what is kept of a mark of a write
pub record MarkOf (basis : Basis) (past : List Event) (board : ℕ) (mark : Mark) (entry : ℕ) : Type 0 where
  pub known : entry ≤ length (rows basis past)
  pub board_is : board_of basis.facts (rows basis past) entry ≡ Some board
  pub written : 1 ≤ writes (strokes entry past)
  pub digest : HasDigest mark (digest_of (rows basis past) entry)

abbrev pub MarkKept : Basis → List Event → ℕ → Mark → Type 0
MarkKept basis past board mark = IfSome (entry_named mark) (MarkOf basis past board mark)

-- the marks of a step are so kept, where the step's entry is of that board
pub prefix-kept : (basis : Basis) (past : List Event) (board : ℕ) (op : Op) (entry : ℕ) (told : List Mark) → IsPrefix told (marks op entry (digest_of (rows basis past) entry)) → entry ≤ length (rows basis past) → board_of basis.facts (rows basis past) entry ≡ Some board → (is_write op ≡ true → 1 ≤ writes (strokes entry past)) → AllByRecursion (MarkKept basis past board) told
prefix-kept basis past board Op.Prepare entry [] p k b w = tt
prefix-kept basis past board Op.Prepare entry (m ∷ ms) p k b w = absurd p
prefix-kept basis past board Op.Reload entry [] p k b w = tt
prefix-kept basis past board Op.Reload entry (m ∷ ms) p k b w = absurd p
prefix-kept basis past board Op.Cleanup entry [] p k b w = tt
prefix-kept basis past board Op.Cleanup entry (m ∷ ms) p k b w = absurd p
prefix-kept basis past board Op.Detach entry [] p k b w = tt
prefix-kept basis past board Op.Detach entry (m ∷ []) p k b w = rw p.0 (tt, tt)
prefix-kept basis past board Op.Detach entry (m ∷ m' ∷ ms) p k b w = absurd p.1
prefix-kept basis past board Op.Attach entry [] p k b w = tt
prefix-kept basis past board Op.Attach entry (m ∷ []) p k b w = rw p.0 (tt, tt)
prefix-kept basis past board Op.Attach entry (m ∷ m' ∷ ms) p k b w = absurd p.1
prefix-kept basis past board Op.Write entry [] p k b w = tt
prefix-kept basis past board Op.Write entry (m ∷ []) p k b w =
    rw p.0 (record { known = k; board_is = b; written = w refl; digest = tt }, tt)
prefix-kept basis past board Op.Write entry (m ∷ m' ∷ []) p k b w =
    rw (p.0, p.1.0) (record { known = k; board_is = b; written = w refl; digest = tt }, (record { known = k; board_is = b; written = w refl; digest = refl }, tt))
prefix-kept basis past board Op.Write entry (m ∷ m' ∷ m'' ∷ ms) p k b w = absurd p.1.1

-- what a past keeps of the marks that it tells
pub record MarksKept (basis : Basis) (past : List Event) : Type 0 where
  pub told_are : (board : ℕ) → AllByRecursion (MarkKept basis past board) (told basis past board)
  pub few : (board entry : ℕ) (mark : Mark) → entry_named mark ≡ Some entry → how_many (is_like mark) (told basis past board) + open_writes entry past ≤ writes (strokes entry past)
  pub after : (board entry : ℕ) (mark : Mark) → entry_named mark ≡ Some entry → AfterStart basis board entry mark past

pub marks-none : (basis : Basis) → MarksKept basis []
marks-none basis = record { told_are = λ _. tt; few = λ _ _ _ _. omega arith; after = λ _ _ _ _. tt }

-- a mark stays so as the log goes on
pub mark-on : (basis : Basis) (past : List Event) (event : Event) (board : ℕ) (mark : Mark) → GoesOn (rows basis past) (rows basis (event ∷ past)) → ((e : ℕ) → writes (strokes e past) ≤ writes (strokes e (event ∷ past))) → MarkKept basis past board mark → MarkKept basis (event ∷ past) board mark
mark-on basis past event board mark g w = at mark (entry_named mark)
  where
    digests : (o o' : Option Row) → option_map fixed o' ≡ option_map fixed o → unwrap_or (option_map (λ r. r.digest) o') [] ≡ unwrap_or (option_map (λ r. r.digest) o) []
    digests None None h = refl
    digests (Some r) (Some r') h = let s : fixed r' ≡ fixed r = cc in ap (λ (x : Row). x.digest) s
    digests None (Some r') h = cc
    digests (Some r) None h = cc

    at : (mark : Mark) (o : Option ℕ) → IfSome o (MarkOf basis past board mark) → IfSome o (MarkOf basis (event ∷ past) board mark)
    at mark None k = tt
    at mark (Some e) k =
        let f : fixed_row (rows basis (event ∷ past)) e ≡ fixed_row (rows basis past) e = goes_on-fixed (rows basis past) (rows basis (event ∷ past)) e g k.known in
        let d : digest_of (rows basis (event ∷ past)) e ≡ digest_of (rows basis past) e = digests (row_of (rows basis past) e) (row_of (rows basis (event ∷ past)) e) f in
        let grows = goes_on-grows (rows basis past) (rows basis (event ∷ past)) g in
        record {
          known = omega (arith, grows, k.known);
          board_is = board-fixed basis.facts (rows basis past) (rows basis (event ∷ past)) e f ∙ k.board_is;
          written = omega (arith, w e, k.written);
          digest = subst (HasDigest mark) (sym d) k.digest;
        }

-- what is kept at any event
pub marks-step : (basis : Basis) (past : List Event) (event : Event) → MarksKept basis past → GoesOn (rows basis past) (rows basis (event ∷ past)) → ((e : ℕ) → writes (strokes e past) ≤ writes (strokes e (event ∷ past))) → ((board : ℕ) → AllByRecursion (MarkKept basis past board) (told_by basis.facts (rows basis past) event board)) → ((board entry : ℕ) (mark : Mark) → entry_named mark ≡ Some entry → how_many (is_like mark) (told_by basis.facts (rows basis past) event board) + open_writes entry (event ∷ past) + writes (strokes entry past) ≤ open_writes entry past + writes (strokes entry (event ∷ past))) → ((board entry : ℕ) (mark : Mark) → entry_named mark ≡ Some entry → OnTrue (list_any (is_like mark) (told_by basis.facts (rows basis past) event board)) (IsTrue (list_any (starts_write entry) past))) → MarksKept basis (event ∷ past)
marks-step basis past event k g w t c a =
    record {
      told_are = λ board. All-append (MarkKept basis (event ∷ past) board) (told basis past board) _
          (All-map _ _ (told basis past board) (k.told_are board) (λ m h. mark-on basis past event board m g w h))
          (All-map _ _ (told_by basis.facts (rows basis past) event board) (t board) (λ m h. mark-on basis past event board m g w h));
      few = λ board entry mark n.
          let ap = how_many-append (is_like mark) (told basis past board) (told_by basis.facts (rows basis past) event board) in
          omega (arith, ap, k.few board entry mark n, c board entry mark n);
      after = λ board entry mark n. (a board entry mark n, k.after board entry mark n);
    }

-- an event that tells no mark, and starts and ends no step
pub marks-quiet : (basis : Basis) (past : List Event) (event : Event) → MarksKept basis past → GoesOn (rows basis past) (rows basis (event ∷ past)) → ((e : ℕ) → strokes e (event ∷ past) ≡ strokes e past) → ((board : ℕ) → told_by basis.facts (rows basis past) event board ≡ []) → open_steps (event ∷ past) ≡ open_steps past → MarksKept basis (event ∷ past)
marks-quiet basis past event k g s t o =
    marks-step basis past event k g (λ e. omega (arith, ap writes (s e))) (λ board. rw (t board) tt)
    (λ board entry mark n. rw (t board, o, s entry) (omega arith))
    (λ board entry mark n. rw (t board) tt)

pub how_many-push : {X : Type 0} (p : X → Bool) (xs : List X) (x : X) → how_many p (xs ++ x ∷ []) ≡ how_many p xs + how_many p (x ∷ [])
how_many-push p xs x = how_many-append p xs (x ∷ [])

pub marks-start : (basis : Basis) (past : List Event) (client entry : ℕ) (op : Op) → MarksKept basis past → MarksKept basis (Event.Start client entry op ∷ past)
marks-start basis past client entry op k =
    marks-step basis past (Event.Start client entry op) k (inl refl)
    (λ e. by_test (entry == e) _ (λ t. rw t (omega arith)) (λ f. rw f (omega arith)))
    (λ board. tt)
    (λ board e mark n. count e)
    (λ board e mark n. tt)
  where
    count : (e : ℕ) → 0 + open_writes e (Event.Start client entry op ∷ past) + writes (strokes e past) ≤ open_writes e past + writes (strokes e (Event.Start client entry op ∷ past))
    count e =
        let p = how_many-push (is_write_of e) (open_steps past) (record { client = client; entry = entry; op = op }) in
        by_test (entry == e) _
        (λ t. by_test (is_write op) _
        (λ w. let q : how_many (is_write_of e) (record { client = client; entry = entry; op = op } ∷ []) ≡ 1 = rw (t, w) refl in rw (t, w) (omega (arith, p, q)))
        (λ w. let q : how_many (is_write_of e) (record { client = client; entry = entry; op = op } ∷ []) ≡ 0 = rw (t, w) refl in rw (t, w) (omega (arith, p, q))))
        (λ f. let q : how_many (is_write_of e) (record { client = client; entry = entry; op = op } ∷ []) ≡ 0 = rw f refl in rw f (omega (arith, p, q)))

-- whether a board is that of an entry
pub board-of-is : (facts : Facts) (rows : List Row) (entry board : ℕ) → is_board_of facts rows entry board ≡ true → board_of facts rows entry ≡ Some board
board-of-is facts rows entry board h = at (board_of facts rows entry) h
  where
    at : (o : Option ℕ) → unwrap_or (option_map (λ b. b == board) o) false ≡ true → o ≡ Some board
    at None g = cc
    at (Some b) g = ap Some (eqb-true b board g)

pub filter-fewer : {X : Type 0} (p q : X → Bool) (xs : List X) → how_many q (filter p xs) ≤ how_many q xs
filter-fewer p q [] = omega arith
filter-fewer p q (x ∷ xs) =
    let rest : how_many q (filter p xs) ≤ how_many q xs = filter-fewer p q xs in
    by_test (p x) _
    (λ t. by_test (q x) _ (λ u. rw (t, u) (omega arith)) (λ u. rw (t, u) rest))
    (λ t. by_test (q x) _ (λ u. rw (t, u) (omega arith)) (λ u. rw (t, u) rest))

-- what is counted, once a filter has taken away an element that is found
pub filter-many : {X : Type 0} (p q : X → Bool) (xs : List X) (x : X) (k : ℕ) → find p xs ≡ Some x → how_many q (x ∷ []) ≡ k → how_many q (filter (λ y. not (p y)) xs) + k ≤ how_many q xs
filter-many p q [] x k h c = cc
filter-many p q (y ∷ ys) x k h c =
    let fewer : how_many q (filter (λ y. not (p y)) ys) ≤ how_many q ys = filter-fewer (λ y. not (p y)) q ys in
    by_test (p y) _
    (λ t. let h' : Some y ≡ Some x = rw t at h in let s : y ≡ x = cc in
    by_test (q y) _
    (λ u. let v : q x ≡ true = ap q (sym s) ∙ u in let d : 1 ≡ k = rw v at c in rw (t, u) (omega arith))
    (λ u. let v : q x ≡ false = ap q (sym s) ∙ u in let d : 0 ≡ k = rw v at c in rw (t, u) (omega arith)))
    (λ t. let rest : how_many q (filter (λ y. not (p y)) ys) + k ≤ how_many q ys = filter-many p q ys x k (rw t at h) c in
    by_test (q y) _ (λ u. rw (t, u) (omega arith)) (λ u. rw (t, u) rest))

pub one-of : (b : Bool) → (if b then 1 else 0) ≡ one_where b
one-of true = refl
one-of false = refl

pub writes-one : (s : List Stroke) (op : Op) (rest : List Stroke) → s ≡ Stroke.Started op ∷ rest → is_write op ≡ true → 1 ≤ writes s
writes-one s op rest e w = rw (e, w) (omega arith)

-- a write that was started once stands in the past
pub writes-started : (past : List Event) (entry : ℕ) → 1 ≤ writes (strokes entry past) → IsTrue (list_any (starts_write entry) past)
writes-started [] entry h = absurd (omega arith)
writes-started (Event.Start client e op ∷ past) entry h =
    by_test (e == entry) _
    (λ t. by_test (is_write op) _
    (λ w. rw (t, w) refl)
    (λ w. let h' : 1 ≤ writes (strokes entry past) = (let g : 1 ≤ 0 + writes (strokes entry past) = rw (t, w) at h in omega arith) in rw (t, w) (writes-started past entry h')))
    (λ f. let h' : 1 ≤ writes (strokes entry past) = rw f at h in rw f (writes-started past entry h'))
writes-started (Event.End client e op outcome told seen ∷ past) entry h =
    by_test (e == entry) _
    (λ t. let h' : 1 ≤ writes (strokes entry past) = rw t at h in writes-started past entry h')
    (λ f. let h' : 1 ≤ writes (strokes entry past) = rw f at h in writes-started past entry h')
writes-started (_ ∷ past) entry h = writes-started past entry h

pub few-after : (told : List Mark) (mark : Mark) (entry e : ℕ) (op : Op) (past : List Event) → how_many (is_like mark) told ≤ one_where ((entry == e) && is_write op) → (is_write op ≡ true → 1 ≤ writes (strokes entry past)) → OnTrue (list_any (is_like mark) told) (IsTrue (list_any (starts_write e) past))
few-after told mark entry e op past h w =
    by_test (list_any (is_like mark) told) _
    (λ t. rw t (at (any-many (is_like mark) told t)))
    (λ f. rw f tt)
  where
    at : 1 ≤ how_many (is_like mark) told → IsTrue (list_any (starts_write e) past)
    at one =
        by_test (entry == e) _
        (λ t. by_test (is_write op) _
        (λ u. subst (λ (x : ℕ). IsTrue (list_any (starts_write x) past)) (eqb-true entry e t) (writes-started past entry (w u)))
        (λ u. let h' : how_many (is_like mark) told ≤ 0 = rw (t, u) at h in absurd (omega arith)))
        (λ t. let h' : how_many (is_like mark) told ≤ 0 = rw t at h in absurd (omega arith))

pub marks-end : (c : Campaign) (past : List Event) (client entry : ℕ) (op : Op) (outcome : Result (Unit {0}) BoardFault) (told : List Mark) (seen : Seen) → StepsKept c.basis past → TakenKept c.basis past → MarksKept c.basis past → EndAllowed c.basis c.first past client entry op outcome told seen → MarksKept c.basis (Event.End client entry op outcome told seen ∷ past)
marks-end c past client entry op outcome told seen s t k a =
    marks-step c.basis past (Event.End client entry op outcome told seen) k (inl refl)
    (λ e. by_test (entry == e) _ (λ u. rw u (omega arith)) (λ f. rw f (omega arith)))
    (λ board. by_test (is_board_of c.basis.facts (rows c.basis past) entry board) _
    (λ u. rw u (prefix-kept c.basis past board op entry told a.told_is known (board-of-is c.basis.facts (rows c.basis past) entry board u) write))
    (λ f. rw f tt))
    (λ board e mark n. count board e mark n)
    (λ board e mark n. by_test (is_board_of c.basis.facts (rows c.basis past) entry board) _
    (λ u. rw u (few-after told mark entry e op past (prefix-few op entry (digest_of (rows c.basis past) entry) told mark e a.told_is n) write))
    (λ f. rw f tt))
  where
    st : (rest : List Stroke) × (strokes entry past ≡ Stroke.Started op ∷ rest)
    st = open-started past entry (record { client = client; entry = entry; op = op }) s.open_are a.open_is

    write : is_write op ≡ true → 1 ≤ writes (strokes entry past)
    write w = writes-one (strokes entry past) op st.0 st.1 w

    known : entry ≤ length (rows c.basis past)
    known = at (t.begun entry)
      where
        at : (strokes entry past ≡ []) ⊎ Taken c.basis past entry → entry ≤ length (rows c.basis past)
        at (inl e) = absurd (not-fresh (strokes entry past) op st.0 st.1 e)
        at (inr w) = w.known

    count : (board e : ℕ) (mark : Mark) → entry_named mark ≡ Some e → how_many (is_like mark) (told_by c.basis.facts (rows c.basis past) (Event.End client entry op outcome told seen) board) + open_writes e (Event.End client entry op outcome told seen ∷ past) + writes (strokes e past) ≤ open_writes e past + writes (strokes e (Event.End client entry op outcome told seen ∷ past))
    count board e mark n =
        let few : how_many (is_like mark) told ≤ one_where ((entry == e) && is_write op) = prefix-few op entry (digest_of (rows c.basis past) entry) told mark e a.told_is n in
        let gone : how_many (is_write_of e) (filter (λ x. not (x.entry == entry)) (open_steps past)) + one_where ((entry == e) && is_write op) ≤ how_many (is_write_of e) (open_steps past) = filter-many (λ x. x.entry == entry) (is_write_of e) (open_steps past) (record { client = client; entry = entry; op = op }) (one_where ((entry == e) && is_write op)) a.open_is (one-of ((entry == e) && is_write op)) in
        let same : writes (strokes e (Event.End client entry op outcome told seen ∷ past)) ≡ writes (strokes e past) = by_test (entry == e) _ (λ u. rw u refl) (λ f. rw f refl) in
        by_test (is_board_of c.basis.facts (rows c.basis past) entry board) _
        (λ u. rw (u, same) (omega arith))
        (λ f. rw (f, same) (omega arith))

pub prefix-of_none : {X : Type 0} (xs : List X) → IsPrefix xs [] → xs ≡ []
prefix-of_none [] p = refl
prefix-of_none (x ∷ xs) p = absurd p

-- what is kept of marks that begin those of an open step
pub record OpenMarks (basis : Basis) (past : List Event) (board : ℕ) (ms : List Mark) : Type 0 where
  pub kept : AllByRecursion (MarkKept basis past board) ms
  pub few : (mark : Mark) (e : ℕ) → entry_named mark ≡ Some e → how_many (is_like mark) ms ≤ open_writes e past
  pub after : (mark : Mark) (e : ℕ) → entry_named mark ≡ Some e → OnTrue (list_any (is_like mark) ms) (IsTrue (list_any (starts_write e) past))

pub open-marks_none : (basis : Basis) (past : List Event) (board : ℕ) → OpenMarks basis past board []
open-marks_none basis past board = record { kept = tt; few = λ _ _ _. omega arith; after = λ _ _ _. tt }

pub open-marks_some : (basis : Basis) (past : List Event) (board : ℕ) (ms : List Mark) (x : OpenStep) → StepsKept basis past → TakenKept basis past → open_on basis past board ≡ Some x → IsPrefix ms (marks x.op x.entry (digest_of (rows basis past) x.entry)) → OpenMarks basis past board ms
open-marks_some basis past board ms x s t e p =
    record {
      kept = prefix-kept basis past board x.op x.entry ms p known (board-of-is basis.facts (rows basis past) x.entry board (find-passes (λ y. is_board_of basis.facts (rows basis past) y.entry board) (open_steps past) x e)) write;
      few = λ mark entry n. few mark entry n;
      after = λ mark entry n. few-after ms mark x.entry entry x.op past (prefix-few x.op x.entry (digest_of (rows basis past) x.entry) ms mark entry p n) write;
    }
  where
    w : OpenKept past x
    w = All-find (OpenKept past) (λ y. is_board_of basis.facts (rows basis past) y.entry board) (open_steps past) x s.open_are e

    write : is_write x.op ≡ true → 1 ≤ writes (strokes x.entry past)
    write u = writes-one (strokes x.entry past) x.op w.rest w.started u

    at : (strokes x.entry past ≡ []) ⊎ Taken basis past x.entry → x.entry ≤ length (rows basis past)
    at (inl n) = absurd (not-fresh (strokes x.entry past) x.op w.rest w.started n)
    at (inr k) = k.known

    known : x.entry ≤ length (rows basis past)
    known = at (t.begun x.entry)

    few : (mark : Mark) (entry : ℕ) → entry_named mark ≡ Some entry → how_many (is_like mark) ms ≤ open_writes entry past
    few mark entry n =
        let one : how_many (is_like mark) ms ≤ one_where ((x.entry == entry) && is_write x.op) = prefix-few x.op x.entry (digest_of (rows basis past) x.entry) ms mark entry p n in
        by_test ((x.entry == entry) && is_write x.op) _
        (λ u. let m : 1 ≤ open_writes entry past = find-many (λ y. is_board_of basis.facts (rows basis past) y.entry board) (is_write_of entry) (open_steps past) x e u in
        let o : how_many (is_like mark) ms ≤ 1 = rw u at one in omega arith)
        (λ u. let o : how_many (is_like mark) ms ≤ 0 = rw u at one in omega arith)

pub open-marks : (basis : Basis) (past : List Event) (board : ℕ) (ms : List Mark) → StepsKept basis past → TakenKept basis past → IsPrefix ms (open_marks basis past board) → OpenMarks basis past board ms
open-marks basis past board ms s t p = at (open_on basis past board) refl p
  where
    at : (o : Option OpenStep) → open_on basis past board ≡ o → IsPrefix ms (unwrap_or (option_map (λ s. marks s.op s.entry (digest_of (rows basis past) s.entry)) o) []) → OpenMarks basis past board ms
    at None e p = rw (prefix-of_none ms p) (open-marks_none basis past board)
    at (Some x) e p = open-marks_some basis past board ms x s t e p

-- what a boot tells of a board
pub boot-told : (c : Campaign) (past : List Event) (plan : BootPlan) (boards : List BoardSeen) (board : ℕ) → StepsKept c.basis past → TakenKept c.basis past → ((n : ℕ) (b : BoardSeen) → slice_get boards n ≡ Some b → BoardListed c.basis c.first past plan n b) → OpenMarks c.basis past board (untold_of boards board)
boot-told c past plan boards board s t h = at (slice_get boards board) refl
  where
    at : (o : Option BoardSeen) → slice_get boards board ≡ o → OpenMarks c.basis past board (unwrap_or (option_map (λ b. b.untold) o) [])
    at None e = open-marks_none c.basis past board
    at (Some b) e = let l = h board b e in open-marks c.basis past board b.untold s t l.untold

pub marks-boot : (c : Campaign) (past : List Event) (number time : ℕ) (limit : Option ℕ) (found : Found) (boards : List BoardSeen) (plan : BootPlan) → StepsKept c.basis past → TakenKept c.basis past → MarksKept c.basis past → GoesOn (rows c.basis past) (rows c.basis (Event.Boot number time limit found boards ∷ past)) → BootAllowed c past number time limit found boards plan → MarksKept c.basis (Event.Boot number time limit found boards ∷ past)
marks-boot c past number time limit found boards plan s t k g a =
    marks-step c.basis past (Event.Boot number time limit found boards) k g (λ e. omega arith)
    (λ board. (told board).kept)
    (λ board entry mark n. let f = (told board).few mark entry n in omega arith)
    (λ board entry mark n. (told board).after mark entry n)
  where
    told : (board : ℕ) → OpenMarks c.basis past board (untold_of boards board)
    told board = boot-told c past plan boards board s t a.listed
