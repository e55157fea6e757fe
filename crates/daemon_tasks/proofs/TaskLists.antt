-- What there is to do as a boot begins, entry by entry.
use Rattle.std.proofs.Common.{◌≡◌, ℕ, ◌≤◌, ◌+◌, Bool, true, false, ◌&&◌, ◌||◌, List, [], ◌∷◌, ◌++◌, map, length, refl, ap, sym, ◌∙◌, subst, arith}
use Rattle.std.proofs.lemmas.Bool.{eqb-true}
use Rattle.std.specs.Prelude.{Option, Some, ◌==◌, filter, option_map, unwrap_or}
use Rattle.std.specs.List.{AllByRecursion, list_any}
use Rattle.history_keeper.specs.declared.row.Row.{Row}
use Rattle.history_keeper.specs.declared.row.RowState.{RowState}
use Rattle.history_keeper.specs.Signs.{KeeperSigns}
use Rattle.update_log.proofs.Lists.{by_test, eqb-other}
use Rattle.update_log.proofs.Openings.{EntriesFrom}
use Rattle.update_log.proofs.WaitsOnce.{found-own}
use Rattle.update_log.specs.declared.event.Event.{Event}
use Rattle.update_log.specs.Known.{Basis, row_of, rows, views}
use Rattle.update_log.specs.Legal.{may_judge}
use Rattle.update_log.specs.Pasts.{off}
use Rattle.daemon_core.proofs.BoardsQuiet.{kept-so}
use Rattle.daemon_core.specs.HouseLog.{IsHouseLog}
use Rattle.daemon_core.specs.Housed.{basis_in, HouseLogView, Housed, past, past_in}
use Rattle.offline_updates.specs.Waiting.{entries_where, is_pending, is_to_judge}
use Rattle.client_plays.specs.Endings.{HouseWent, IsFresh, IsIdle, SoFar}
use Rattle.client_plays.specs.Moments.{Moment, began}
use Rattle.client_plays.specs.Plays.{Task, TaskPlays, ToJudge, ToResume}
use Rattle.client_plays.specs.Scripts.{PlayedSo, is_judgeable, tasks}
use Rattle.client_plays.specs.Tools.{Means}
use Rattle.client_plays.proofs.MomentLaws.{did-both, did-nothing}
use Rattle.client_plays.proofs.PlayLaws.{task-unplayed}
use Rattle.client_plays.proofs.RestLaws.{rest-both, rest-here, so-left}
use Rattle.client_plays.proofs.ScriptLaws.{so-all, so-more, until-nothing}
use Rattle.daemon_tasks.specs.Judged.{AllKnown, can_judge, to_judge_in}
use Rattle.daemon_tasks.specs.Stays.{RowsStay, rows_at}
use Rattle.daemon_tasks.specs.Waits.{AllWait, AreApart}
use Rattle.daemon_tasks.proofs.JudgePlays.{all-nothing}
use Rattle.daemon_tasks.proofs.JudgeLoops.{so-after}

-- ---- entries of rows that count from a number

-- Each is at least that.
abbrev pub AllAbove : ℕ → List ℕ → Type 0
AllAbove n [] = Unit {0}
AllAbove n (entry ∷ entries) = (n ≤ entry) × AllAbove n entries

above-less : (n : ℕ) (entries : List ℕ) → AllAbove (n + 1) entries → AllAbove n entries
above-less n [] a = tt
above-less n (entry ∷ entries) a = (let h : n + 1 ≤ entry = a.0 in omega arith, above-less n entries a.1)

above-not_in : (n entry : ℕ) (entries : List ℕ) → entry ≡ n → AllAbove (n + 1) entries → list_any (λ e. e == entry) entries ≡ false
above-not_in n entry [] q a = refl
above-not_in n entry (e ∷ entries) q a =
    let f : (e == entry) ≡ false = eqb-other e entry (λ s. let h : n + 1 ≤ e = a.0 in omega arith) in
    rw f (above-not_in n entry entries q a.1)

where-above : (fits : RowState → Bool) (n : ℕ) (all : List Row) → EntriesFrom n all → AllAbove n (entries_where fits all)
where-above fits n [] v = tt
where-above fits n (r ∷ all) v =
    let rest : AllAbove n (entries_where fits all) = above-less n (entries_where fits all) (where-above fits (n + 1) all v.1) in
    let q : r.entry ≡ n = v.0 in
    by_test (fits r.state) _
    (λ t. rw t (let h : n ≤ r.entry = omega arith in (h, rest)))
    (λ t. rw t rest)

pub where-apart : (fits : RowState → Bool) (n : ℕ) (all : List Row) → EntriesFrom n all → AreApart (entries_where fits all)
where-apart fits n [] v = tt
where-apart fits n (r ∷ all) v =
    let rest : AreApart (entries_where fits all) = where-apart fits (n + 1) all v.1 in
    by_test (fits r.state) _
    (λ t. rw t (above-not_in n r.entry (entries_where fits all) v.0 (where-above fits (n + 1) all v.1), rest))
    (λ t. rw t rest)

-- None of the others is among the first.
abbrev pub NoneIn : List ℕ → List ℕ → Type 0
NoneIn entries [] = Unit {0}
NoneIn entries (other ∷ others) = (list_any (λ e. e == other) entries ≡ false) × NoneIn entries others

none-cons : (n entry : ℕ) (entries others : List ℕ) → entry ≡ n → AllAbove (n + 1) others → NoneIn entries others → NoneIn (entry ∷ entries) others
none-cons n entry entries [] q a k = tt
none-cons n entry entries (other ∷ others) q a k =
    let f : (entry == other) ≡ false = eqb-other entry other (λ s. let h : n + 1 ≤ other = a.0 in omega arith) in
    (rw f k.0, none-cons n entry entries others q a.1 k.1)

-- No state fits both.
abbrev pub Exclude : (RowState → Bool) → (RowState → Bool) → Type 0
Exclude one other = (state : RowState) → one state ≡ true → other state ≡ false

where-none : (one other : RowState → Bool) (n : ℕ) (all : List Row) → Exclude one other → EntriesFrom n all → NoneIn (entries_where one all) (entries_where other all)
where-none one other n [] x v = tt
where-none one other n (r ∷ all) x v =
    let rest : NoneIn (entries_where one all) (entries_where other all) = where-none one other (n + 1) all x v.1 in
    by_test (one r.state) _
    (λ t.
    let u : other r.state ≡ false = x r.state t in
    rw (t, u) (none-cons n r.entry (entries_where one all) (entries_where other all) v.0 (where-above other (n + 1) all v.1) rest))
    (λ t.
    by_test (other r.state) _
    (λ u. rw (t, u) (above-not_in n r.entry (entries_where one all) v.0 (where-above one (n + 1) all v.1), rest))
    (λ u. rw (t, u) rest))

judged-excludes : Exclude is_to_judge is_pending
judged-excludes RowState.Pending h = cc
judged-excludes _ h = refl

-- ---- each has its row

where-known : (a : HouseLogView) (fits : RowState → Bool) (all : List Row) → AllByRecursion (λ r. row_of (rows_at a) r.entry ≡ Some r) all → AllKnown a (entries_where fits all)
where-known a fits [] f = tt
where-known a fits (r ∷ all) f =
    let rest : AllKnown a (entries_where fits all) = where-known a fits all f.1 in
    by_test (fits r.state) _ (λ t. rw t ((r, f.0), rest)) (λ t. rw t rest)

pending-is : (state : RowState) → is_pending state ≡ true → state ≡ RowState.Pending
pending-is RowState.Pending h = refl
pending-is _ h = cc

where-waits : (a : HouseLogView) (all : List Row) → AllByRecursion (λ r. row_of (rows_at a) r.entry ≡ Some r) all → AllWait (rows_at a) (entries_where is_pending all)
where-waits a [] f = tt
where-waits a (r ∷ all) f =
    let rest : AllWait (rows_at a) (entries_where is_pending all) = where-waits a all f.1 in
    by_test (is_pending r.state) _
    (λ t. let p : r.state ≡ RowState.Pending = pending-is r.state t in rw t (record { row = r; row_is = f.0; pending = p }, rest))
    (λ t. rw t rest)

-- ---- those that can be judged

judge-only : (past : List Event) (entry : ℕ) (state : RowState) → is_to_judge state ≡ false → may_judge past state entry ≡ false
judge-only past entry RowState.NeedsReboot h = cc
judge-only past entry RowState.Begun h = cc
judge-only past entry _ h = refl

module _ (basis : Basis) (p : List Event) where
  judged-tasks : (all : List Row) → AllByRecursion (λ r. row_of (rows basis p) r.entry ≡ Some r) all
      → map ToJudge (filter (can_judge basis p) (entries_where is_to_judge all)) ≡ map (λ row. ToJudge row.entry) (filter (is_judgeable p (views basis p)) all)
  judged-tasks [] f = refl
  judged-tasks (r ∷ all) f =
      let J = is_judgeable p (views basis p) in
      let rest : map ToJudge (filter (can_judge basis p) (entries_where is_to_judge all)) ≡ map (λ row. ToJudge row.entry) (filter J all) = judged-tasks all f.1 in
      let own : can_judge basis p r.entry ≡ J r = ap (λ (o : Option Row). unwrap_or (option_map J o) false) f.0 in
      by_test (is_to_judge r.state) _
      (λ t.
      by_test (J r) _
      (λ u. let c : can_judge basis p r.entry ≡ true = own ∙ u in rw (t, u, c) (ap (λ (ts : List Task). ToJudge r.entry ∷ ts) rest))
      (λ u. let c : can_judge basis p r.entry ≡ false = own ∙ u in rw (t, u, c) rest))
      (λ t.
      let m : may_judge p r.state r.entry ≡ false = judge-only p r.entry r.state t in
      let u : J r ≡ false = first-false (may_judge p r.state r.entry) _ m in
      rw (t, u) rest)
    where
      first-false : (a b : Bool) → a ≡ false → (a && b) ≡ false
      first-false a b e = rw e refl

-- ---- the lists of a boot that has just begun

-- The rows of a house log count from 1, and each is that of its entry.
rows-from : (a : HouseLogView) → IsHouseLog a → EntriesFrom 1 (rows_at a)
rows-from a k = (kept-so (basis_in a) a.first (past_in a) k.stands.history k.legal).rows_kept.valid.entries

module _ (a : HouseLogView) (k : IsHouseLog a) where
  own-rows : AllByRecursion (λ r. row_of (rows_at a) r.entry ≡ Some r) (rows_at a)
  own-rows = found-own 1 (rows_at a) (rows-from a k)

  pub all-known : (fits : RowState → Bool) (entries : List ℕ) → entries ≡ entries_where fits a.core.rows → AllKnown a entries
  all-known fits entries e =
      subst (AllKnown a) (sym (e ∙ ap (entries_where fits) k.stands.rows)) (where-known a fits (rows_at a) own-rows)

  pub all-apart : (fits : RowState → Bool) (entries : List ℕ) → entries ≡ entries_where fits a.core.rows → AreApart entries
  all-apart fits entries e =
      subst AreApart (sym (e ∙ ap (entries_where fits) k.stands.rows)) (where-apart fits 1 (rows_at a) (rows-from a k))

  pub all-wait : (entries : List ℕ) → entries ≡ entries_where is_pending a.core.rows → AllWait (rows_at a) entries
  all-wait entries e =
      subst (AllWait (rows_at a)) (sym (e ∙ ap (entries_where is_pending) k.stands.rows)) (where-waits a (rows_at a) own-rows)

  pub none-both : (judged waiting : List ℕ) → judged ≡ entries_where is_to_judge a.core.rows → waiting ≡ entries_where is_pending a.core.rows → NoneIn judged waiting
  none-both judged waiting e f =
      subst (λ (x : List ℕ). NoneIn x waiting) (sym (e ∙ ap (entries_where is_to_judge) k.stands.rows))
      (subst (λ (y : List ℕ). NoneIn (entries_where is_to_judge (rows_at a)) y) (sym (f ∙ ap (entries_where is_pending) k.stands.rows))
      (where-none is_to_judge is_pending 1 (rows_at a) judged-excludes (rows-from a k)))

  -- They are the tasks.
  tasks-now : (p : List Event) → IsFresh p → past_in a ≡ p → tasks (basis_in a) (began p) ≡ map (λ row. ToJudge row.entry) (filter (is_judgeable (past_in a) (views (basis_in a) (past_in a))) (rows_at a)) ++ map ToResume (entries_where is_pending (rows_at a))
  tasks-now p fresh e =
      let whole : began p ≡ fresh.boot ∷ fresh.before = ap began fresh.are ∙ rw fresh.is refl in
      let q : past_in a ≡ fresh.boot ∷ fresh.before = e ∙ fresh.are in
      ap (tasks (basis_in a)) whole
      ∙ ap (λ (w : List Event). map (λ row. ToJudge row.entry) (filter (is_judgeable w (views (basis_in a) w)) (rows (basis_in a) w)) ++ map ToResume (entries_where is_pending (rows (basis_in a) w))) (sym q)

  pub tasks-are : (judged waiting : List ℕ) → IsFresh (past_in a) → judged ≡ entries_where is_to_judge a.core.rows → waiting ≡ entries_where is_pending a.core.rows → tasks (basis_in a) (began (past_in a)) ≡ to_judge_in a judged ++ map ToResume waiting
  tasks-are judged waiting fresh e f =
      tasks-now (past_in a) fresh refl
      ∙ ap (λ (ts : List Task). ts ++ map ToResume (entries_where is_pending (rows_at a))) (sym (judged-tasks (basis_in a) (past_in a) (rows_at a) own-rows))
      ∙ ap (λ (es : List ℕ). to_judge_in a es ++ map ToResume (entries_where is_pending (rows_at a))) (sym (e ∙ ap (entries_where is_to_judge) k.stands.rows))
      ∙ ap (λ (es : List ℕ). to_judge_in a judged ++ map ToResume es) (sym (f ∙ ap (entries_where is_pending) k.stands.rows))

-- ---- rows that still wait

pub all-wait_still : (entries : List ℕ) (old new : HouseLogView) (waiting : List ℕ) → RowsStay entries old new → NoneIn entries waiting → AllWait (rows_at old) waiting → AllWait (rows_at new) waiting
all-wait_still entries old new [] s n w = tt
all-wait_still entries old new (entry ∷ waiting) s n w = (record { row = w.0.row; row_is = s entry n.0 ∙ w.0.row_is; pending = w.0.pending }, all-wait_still entries old new waiting s n.1 w.1)

-- ---- all tasks

told-either : {X : Type 0} (is_off wanting now : Bool) (client : ℕ) (Play : X → List Moment → Type 0) (xs : List X) (moments : List Moment) → PlayedSo is_off now client Play xs moments → PlayedSo is_off (wanting || now) client Play xs moments
told-either is_off true now client Play xs moments p = so-more is_off now client Play xs moments p
told-either is_off false now client Play xs moments p = p

or-first : (wanting now : Bool) → wanting ≡ true → (wanting || now) ≡ true
or-first true now e = refl
or-first false now e = cc

-- Those to judge were gone through, and then the others.
pub went-both : {K : Type 0} (signs : KeeperSigns K) (Play : Task → List Moment → Type 0) (wanting now : Bool) (first others : List Task) (old mid new : Housed K) → SoFar signs wanting 0 Play first old mid → HouseWent signs now 0 Play others mid new → HouseWent signs (wanting || now) 0 Play (first ++ others) old new
went-both signs Play wanting now first others old mid new s m =
    record {
      went = record {
        moments = s.moments ++ m.went.moments;
        did = did-both 0 s.moments m.went.moments (past old) (past mid) (past new) s.did m.went.did;
        plays = so-after (off (past new)) wanting (wanting || now) 0 Play first others s.moments m.went.moments (or-first wanting now) s.plays
            (told-either (off (past new)) wanting now 0 Play others m.went.moments m.went.plays);
      };
      rest = rest-both signs old mid new s.rest m.rest;
    }

-- No entry, no task.
pub none-left : (entries : List ℕ) → (length entries == 0) ≡ true → map ToResume entries ≡ []
none-left [] e = refl
none-left (x ∷ entries) e = let z : length (x ∷ entries) ≡ 0 = eqb-true (length (x ∷ entries)) 0 e in absurd (omega arith)

-- There is nothing to do.
pub went-none : {K : Type 0} (signs : KeeperSigns K) (Play : Task → List Moment → Type 0) (list : List Task) (h : Housed K) → IsIdle (past h) → list ≡ [] → HouseWent signs false 0 Play list h h
went-none signs Play list h i e =
    subst (λ (ts : List Task). HouseWent signs false 0 Play ts h h) (sym e)
    (record { went = record { moments = []; did = did-nothing 0 (past h); plays = so-all (off (past h)) false 0 Play [] [] refl }; rest = rest-here signs h i })

-- The boot was off before anything was done.
pub went-off : {K : Type 0} (signs : KeeperSigns K) (basis : Basis) (means : Means) (list : List Task) (h : Housed K) → IsIdle (past h) → off (past h) ≡ true → HouseWent signs false 0 (TaskPlays basis means) list h h
went-off signs basis means list h i o =
    record {
      went = record {
        moments = [];
        did = did-nothing 0 (past h);
        plays = so-left (off (past h)) false 0 (TaskPlays basis means) list [] o (until-nothing false 0 (TaskPlays basis means) list (task-unplayed basis means 0));
      };
      rest = rest-here signs h i;
    }

-- Memory was wanting before anything was done.
pub went-nothing : {K : Type 0} (signs : KeeperSigns K) (basis : Basis) (means : Means) (list : List Task) (h : Housed K) → IsIdle (past h) → HouseWent signs true 0 (TaskPlays basis means) list h h
went-nothing signs basis means list h i =
    record {
      went = record { moments = []; did = did-nothing 0 (past h); plays = so-all (off (past h)) true 0 (TaskPlays basis means) list [] (all-nothing basis means list) };
      rest = rest-here signs h i;
    }
