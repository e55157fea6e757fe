-- Rows that are judged, one after the other.
use Rattle.std.proofs.Common.{◌≡◌, ◌⊎◌, ℕ, ◌<◌, ◌≤◌, ◌+◌, Bool, true, false, ◌&&◌, List, [], ◌∷◌, ◌++◌, map, append_assoc, refl, ap, sym, ◌∙◌, subst, inl, inr, suc, take, drop, length, get_or}
use Rattle.std.proofs.lemmas.List.{map-append, take_all}
use Rattle.std.proofs.lemmas.List.Folds.{list_any-append}
use Rattle.std.proofs.lemmas.Bool.{or_parts}
use Rattle.std.proofs.lemmas.List.Elements.{filter-append}
use Rattle.std.specs.Prelude.{Option, Some, None, ◌==◌, not, filter, option_map, unwrap_or}
use Rattle.std.specs.List.{list_any}
use Rattle.fw_facts.specs.Views.{is_home}
use Rattle.fw_facts.specs.declared.view.DeviceView.{DeviceView}
use Rattle.history_keeper.specs.declared.row.Row.{Row}
use Rattle.history_keeper.specs.declared.row.RowState.{RowState}
use Rattle.history_keeper.specs.Signs.{KeeperSigns}
use Rattle.update_log.proofs.Lists.{by_test, eqb-other, eqb-self}
use Rattle.update_log.specs.declared.event.Event.{Event}
use Rattle.update_log.specs.Holding.{live}
use Rattle.update_log.specs.Known.{Basis, row_of, views}
use Rattle.update_log.specs.Legal.{may_judge}
use Rattle.update_log.specs.Pasts.{finished, off}
use Rattle.update_log.specs.Steps.{view_of_row}
use Rattle.daemon_core.specs.Housed.{basis_in, HouseLogView, Housed, past, past_in}
use Rattle.client_plays.specs.Endings.{HouseWent, IsIdle, SoFar}
use Rattle.client_plays.specs.Moments.{Moment}
use Rattle.client_plays.specs.Plays.{Task, TaskPlays, ToJudge}
use Rattle.client_plays.specs.Scripts.{PlayedSo, PlaysAll, PlaysUntil, is_judgeable}
use Rattle.client_plays.specs.Tools.{Means}
use Rattle.client_plays.proofs.BootLaws.{so-told}
use Rattle.client_plays.proofs.ListLaws.{taken-here, taken-more}
use Rattle.client_plays.proofs.MomentLaws.{did-both}
use Rattle.client_plays.proofs.PlayLaws.{task-unplayed}
use Rattle.client_plays.proofs.RestLaws.{rest-both, so-left, so_far-nothing}
use Rattle.client_plays.proofs.ScriptLaws.{so-all, so-more, until-nothing}
use Rattle.daemon_tasks.specs.Judged.{AllKnown, HouseTried, JudgeStays, can_judge, to_judge, to_judge_in}
use Rattle.daemon_tasks.specs.Stays.{RowsStay, rows_at}
use Rattle.daemon_tasks.specs.Waits.{AreApart}

-- ---- lists of plays

pub all-append : {X : Type 0} (wanting : Bool) (client : ℕ) (Play : X → List Moment → Type 0) (xs ys : List X) (moments more : List Moment) → PlaysAll wanting client Play xs moments → PlaysAll wanting client Play ys more → PlaysAll wanting client Play (xs ++ ys) (moments ++ more)
all-append wanting client Play [] ys moments more p q = subst (λ (m : List Moment). PlaysAll wanting client Play ys (m ++ more)) (sym p) q
all-append wanting client Play (x ∷ xs) ys moments more p q =
    record {
      first = p.first;
      rest = p.rest ++ more;
      are = ap (λ (m : List Moment). m ++ more) p.are ∙ append_assoc p.first p.rest more;
      first_is = p.first_is;
      rest_is = all-append wanting client Play xs ys p.rest more p.rest_is q;
    }

pub until-append : {X : Type 0} (wanting : Bool) (client : ℕ) (Play : X → List Moment → Type 0) (xs ys : List X) (moments more : List Moment) → PlaysAll wanting client Play xs moments → PlaysUntil wanting client Play ys more → PlaysUntil wanting client Play (xs ++ ys) (moments ++ more)
until-append wanting client Play [] ys moments more p q = subst (λ (m : List Moment). PlaysUntil wanting client Play ys (m ++ more)) (sym p) q
until-append wanting client Play (x ∷ xs) ys moments more p q =
    inr (record {
      first = p.first;
      rest = p.rest ++ more;
      are = ap (λ (m : List Moment). m ++ more) p.are ∙ append_assoc p.first p.rest more;
      first_is = p.first_is;
      rest_is = until-append wanting client Play xs ys p.rest more p.rest_is q;
    })

-- All of a list were played, and what came of another one behind them.
pub so-after : {X : Type 0} (is_off wanting told : Bool) (client : ℕ) (Play : X → List Moment → Type 0) (xs ys : List X) (moments more : List Moment) → (wanting ≡ true → told ≡ true) → PlaysAll wanting client Play xs moments → PlayedSo is_off told client Play ys more → PlayedSo is_off told client Play (xs ++ ys) (moments ++ more)
so-after true wanting told client Play xs ys moments more h p q = until-append told client Play xs ys moments more (so-told false wanting told client Play xs moments h p) q
so-after false wanting told client Play xs ys moments more h p q = all-append told client Play xs ys moments more (so-told false wanting told client Play xs moments h p) q

-- ---- what was played, later

module _ {X : Type 0} (client : ℕ) (Play : X → List Moment → Type 0) (xs : List X) (moments : List Moment) where
  -- What was played in a boot stays played, if it goes off later, and where memory is told to be wanting.
  later : (was is_off wanting : Bool) → (was ≡ true → is_off ≡ true) → PlayedSo was wanting client Play xs moments → PlayedSo is_off wanting client Play xs moments
  later true is_off wanting h p = so-left is_off wanting client Play xs moments (h refl) p
  later false is_off wanting h p = so-all is_off wanting client Play xs moments p

  told : (is_off before wanting : Bool) → (before ≡ true → wanting ≡ true) → PlayedSo is_off before client Play xs moments → PlayedSo is_off wanting client Play xs moments
  told is_off before true h p = so-more is_off before client Play xs moments p
  told is_off true false h p = let e : false ≡ true = h refl in cc
  told is_off false false h p = p

  pub still-played : (was is_off before wanting : Bool) → (was ≡ true → is_off ≡ true) → (before ≡ true → wanting ≡ true) → PlayedSo was before client Play xs moments → PlayedSo is_off wanting client Play xs moments
  still-played was is_off before wanting o h p = told is_off before wanting h (later was is_off before o p)

-- ---- the tasks of a list of entries

pub judge-append : (basis : Basis) (past : List Event) (xs ys : List ℕ) → to_judge basis past (xs ++ ys) ≡ to_judge basis past xs ++ to_judge basis past ys
judge-append basis past xs ys =
    ap (map ToJudge) (filter-append (can_judge basis past) xs ys)
    ∙ map-append ToJudge (filter (can_judge basis past) xs) (filter (can_judge basis past) ys)

-- ---- whether another row can be judged stays the same

may-same : (p q : List Event) (state : RowState) (entry : ℕ) → live p ≡ [] → live q ≡ [] → finished entry p ≡ finished entry q → may_judge p state entry ≡ may_judge q state entry
may-same p q RowState.Begun entry l m f = rw (l, m) refl
may-same p q RowState.NeedsReboot entry l m f = ap not f
may-same p q _ entry l m f = refl

can-same : (entries : List ℕ) (old mid : HouseLogView) (entry : ℕ) → live (past_in old) ≡ [] → live (past_in mid) ≡ [] → JudgeStays entries old mid → list_any (λ e. e == entry) entries ≡ false → can_judge (basis_in mid) (past_in mid) entry ≡ can_judge (basis_in old) (past_in old) entry
can-same entries old mid entry l m s n =
    ap (λ (o : Option Row). unwrap_or (option_map (is_judgeable (past_in mid) (views (basis_in mid) (past_in mid))) o) false) (s.rows entry n)
    ∙ by (row_of (rows_at old) entry)
  where
    by : (o : Option Row) → unwrap_or (option_map (is_judgeable (past_in mid) (views (basis_in mid) (past_in mid))) o) false ≡ unwrap_or (option_map (is_judgeable (past_in old) (views (basis_in old) (past_in old))) o) false
    by None = refl
    by (Some row) =
        ap (λ (b : Bool). b && unwrap_or (option_map (λ v. is_home v.seen) (view_of_row (views (basis_in mid) (past_in mid)) row)) false)
        (may-same (past_in mid) (past_in old) row.state row.entry m l (s.finished row.entry))
        ∙ ap (λ (v : List DeviceView). may_judge (past_in old) row.state row.entry && unwrap_or (option_map (λ w. is_home w.seen) (view_of_row v row)) false) s.views

abbrev kept : Bool → ℕ → List Task
kept true entry = ToJudge entry ∷ []
kept false entry = []

one : (a : HouseLogView) (entry : ℕ) (b : Bool) → can_judge (basis_in a) (past_in a) entry ≡ b → to_judge_in a (entry ∷ []) ≡ kept b entry
one a entry true t = rw t refl
one a entry false t = rw t refl

one-same : (entries : List ℕ) (old mid : HouseLogView) (entry : ℕ) → live (past_in old) ≡ [] → live (past_in mid) ≡ [] → JudgeStays entries old mid → list_any (λ e. e == entry) entries ≡ false → to_judge_in mid (entry ∷ []) ≡ to_judge_in old (entry ∷ [])
one-same entries old mid entry l m s n =
    let same = can-same entries old mid entry l m s n in
    by_test (can_judge (basis_in old) (past_in old) entry) _
    (λ t. let u : can_judge (basis_in mid) (past_in mid) entry ≡ true = same ∙ t in one mid entry true u ∙ sym (one old entry true t))
    (λ t. let u : can_judge (basis_in mid) (past_in mid) entry ≡ false = same ∙ t in one mid entry false u ∙ sym (one old entry false t))

any-none : (entries : List ℕ) (entry other : ℕ) → list_any (λ e. e == other) (entries ++ entry ∷ []) ≡ false → (list_any (λ e. e == other) entries ≡ false) × (list_any (λ e. e == other) (entry ∷ []) ≡ false)
any-none entries entry other h = or_parts _ _ (sym (list_any-append (λ e. e == other) entries (entry ∷ [])) ∙ h)

stays-more : (entries : List ℕ) (entry : ℕ) (old mid new : HouseLogView) → JudgeStays entries old mid → JudgeStays (entry ∷ []) mid new → JudgeStays (entries ++ entry ∷ []) old new
stays-more entries entry old mid new s t =
    record {
      rows = λ other h. let p = any-none entries entry other h in t.rows other p.1 ∙ s.rows other p.0;
      views = t.views ∙ s.views;
      finished = λ n. t.finished n ∙ s.finished n;
    }

-- ---- so far

-- These entries were gone through.
pub record JudgedSoFar {K : Type 0} (signs : KeeperSigns K) (basis : Basis) (means : Means) (wanting : Bool) (entries : List ℕ) (old new : Housed K) : Type 0 where
  pub so_far : SoFar signs wanting 0 (TaskPlays basis means) (to_judge_in old.house_log entries) old new
  pub stays : JudgeStays entries old.house_log new.house_log

pub judged-none : {K : Type 0} (signs : KeeperSigns K) (basis : Basis) (means : Means) (wanting : Bool) (h : Housed K) → IsIdle (past h) → JudgedSoFar signs basis means wanting [] h h
judged-none signs basis means wanting h i =
    record { so_far = so_far-nothing signs wanting 0 (TaskPlays basis means) h i; stays = record { rows = λ other n. refl; views = refl; finished = λ n. refl } }

told-so : (now wanting : Bool) → (now ≡ true) ⊎ (now ≡ wanting) → wanting ≡ true → now ≡ true
told-so now wanting (inl e) w = e
told-so now wanting (inr e) w = e ∙ w

-- One entry more was.
pub judged-more : {K : Type 0} (signs : KeeperSigns K) (basis : Basis) (means : Means) (now wanting : Bool) (entries : List ℕ) (entry : ℕ) (old mid new : Housed K) → IsIdle (past old) → list_any (λ e. e == entry) entries ≡ false → JudgedSoFar signs basis means wanting entries old mid
    → HouseTried signs basis means (Some now) wanting (to_judge_in mid.house_log (entry ∷ [])) mid new → JudgeStays (entry ∷ []) mid.house_log new.house_log → JudgedSoFar signs basis means now (entries ++ entry ∷ []) old new
judged-more signs basis means now wanting entries entry old mid new i n s t stays =
    let same = one-same entries old.house_log mid.house_log entry i.no_live s.so_far.rest.idle.no_live s.stays n in
    let one : PlaysAll now 0 (TaskPlays basis means) (to_judge_in old.house_log (entry ∷ [])) t.moments = subst (λ (ts : List Task). PlaysAll now 0 (TaskPlays basis means) ts t.moments) same t.more.1 in
    let before : PlaysAll now 0 (TaskPlays basis means) (to_judge_in old.house_log entries) s.so_far.moments = so-told false wanting now 0 (TaskPlays basis means) (to_judge_in old.house_log entries) s.so_far.moments (told-so now wanting t.more.0) s.so_far.plays in
    record {
      so_far = record {
        moments = s.so_far.moments ++ t.moments;
        did = did-both 0 s.so_far.moments t.moments (past old) (past mid) (past new) s.so_far.did t.did;
        plays = subst (λ (ts : List Task). PlaysAll now 0 (TaskPlays basis means) ts (s.so_far.moments ++ t.moments)) (sym (judge-append (basis_in old.house_log) (past old) entries (entry ∷ [])))
            (all-append now 0 (TaskPlays basis means) (to_judge_in old.house_log entries) (to_judge_in old.house_log (entry ∷ [])) s.so_far.moments t.moments before one);
        rest = rest-both signs old mid new s.so_far.rest t.rest;
      };
      stays = stays-more entries entry old.house_log mid.house_log new.house_log s.stays stays;
    }

-- The boot is off.
pub judged-off : {K : Type 0} (signs : KeeperSigns K) (basis : Basis) (means : Means) (wanting : Bool) (entries others all : List ℕ) (more : List Task) (old mid new : Housed K) → entries ++ others ≡ all → JudgedSoFar signs basis means wanting entries old mid
    → (tasks : List Task) → HouseTried signs basis means None wanting tasks mid new → HouseWent signs wanting 0 (TaskPlays basis means) (to_judge_in old.house_log all ++ more) old new
judged-off signs basis means wanting entries others all more old mid new e s tasks t =
    let rest = to_judge_in old.house_log others ++ more in
    let split : to_judge_in old.house_log all ++ more ≡ to_judge_in old.house_log entries ++ rest =
    ap (λ (es : List ℕ). to_judge_in old.house_log es ++ more) (sym e)
    ∙ ap (λ (ts : List Task). ts ++ more) (judge-append (basis_in old.house_log) (past old) entries others)
    ∙ append_assoc (to_judge_in old.house_log entries) (to_judge_in old.house_log others) more
    in
    let none : PlaysUntil wanting 0 (TaskPlays basis means) rest t.moments = subst (λ (m : List Moment). PlaysUntil wanting 0 (TaskPlays basis means) rest m) (sym t.more.0) (until-nothing wanting 0 (TaskPlays basis means) rest (task-unplayed basis means 0)) in
    record {
      went = record {
        moments = s.so_far.moments ++ t.moments;
        did = did-both 0 s.so_far.moments t.moments (past old) (past mid) (past new) s.so_far.did t.did;
        plays = subst (λ (ts : List Task). PlayedSo (off (past new)) wanting 0 (TaskPlays basis means) ts (s.so_far.moments ++ t.moments)) (sym split)
            (so-left (off (past new)) wanting 0 (TaskPlays basis means) (to_judge_in old.house_log entries ++ rest) (s.so_far.moments ++ t.moments) t.more.1
            (until-append wanting 0 (TaskPlays basis means) (to_judge_in old.house_log entries) rest s.so_far.moments t.moments s.so_far.plays none));
      };
      rest = rest-both signs old mid new s.so_far.rest t.rest;
    }

-- ---- entries that stand once

-- An entry isn't among those before it.
pub not-before : (before : List ℕ) (entry : ℕ) (behind all : List ℕ) → before ++ entry ∷ behind ≡ all → AreApart all → list_any (λ e. e == entry) before ≡ false
not-before before entry behind all e a = by before (subst AreApart (sym e) a)
  where
    not-in : (x : ℕ) (ys : List ℕ) → list_any (λ e. e == x) (ys ++ entry ∷ behind) ≡ false → (x == entry) ≡ false
    not-in x [] h = eqb-other x entry (λ s. let t : (entry == x) ≡ true = ap (λ (n : ℕ). n == x) (sym s) ∙ eqb-self x in let f : (entry == x) ≡ false = (or_parts _ _ h).0 in let bad : true ≡ false = sym t ∙ f in cc)
    not-in x (y ∷ ys) h = not-in x ys (or_parts _ _ h).1

    by : (xs : List ℕ) → AreApart (xs ++ entry ∷ behind) → list_any (λ e. e == entry) xs ≡ false
    by [] a = refl
    by (x ∷ xs) a = let f : (x == entry) ≡ false = not-in x xs a.0 in rw f (by xs a.1)

-- ---- turns of the loop

turn-known : (a : HouseLogView) (before : List ℕ) (entry : ℕ) (behind : List ℕ) → AllKnown a (before ++ entry ∷ behind) → (row : Row) × (row_of (rows_at a) entry ≡ Some row)
turn-known a [] entry behind k = k.0
turn-known a (x ∷ before) entry behind k = turn-known a before entry behind k.1

-- The next entry has its row.
pub known-turn : (entries : List ℕ) (i : ℕ) (old mid : HouseLogView) → i < length entries → AreApart entries → AllKnown old entries → JudgeStays (take i entries) old mid → (row : Row) × (row_of (rows_at mid) (get_or entries i 0) ≡ Some row)
known-turn entries i old mid lt a k s =
    let e = taken-here entries i 0 lt in
    let n = not-before (take i entries) (get_or entries i 0) (drop (suc i) entries) entries e a in
    let r = turn-known old (take i entries) (get_or entries i 0) (drop (suc i) entries) (subst (AllKnown old) (sym e) k) in
    (r.0, s.rows (get_or entries i 0) n ∙ r.1)

pub judged-turn : {K : Type 0} (signs : KeeperSigns K) (basis : Basis) (means : Means) (now wanting : Bool) (entries : List ℕ) (i : ℕ) (old mid new : Housed K) → i < length entries → AreApart entries → IsIdle (past old) → JudgedSoFar signs basis means wanting (take i entries) old mid
    → HouseTried signs basis means (Some now) wanting (to_judge_in mid.house_log (get_or entries i 0 ∷ [])) mid new → JudgeStays (get_or entries i 0 ∷ []) mid.house_log new.house_log → JudgedSoFar signs basis means now (take (i + 1) entries) old new
judged-turn signs basis means now wanting entries i old mid new lt a idle s t stays =
    let n = not-before (take i entries) (get_or entries i 0) (drop (suc i) entries) entries (taken-here entries i 0 lt) a in
    subst (λ (es : List ℕ). JudgedSoFar signs basis means now es old new) (taken-more entries i 0 lt)
    (judged-more signs basis means now wanting (take i entries) (get_or entries i 0) old mid new idle n s t stays)

pub off-turn : {K : Type 0} (signs : KeeperSigns K) (basis : Basis) (means : Means) (wanting : Bool) (entries : List ℕ) (i : ℕ) (old mid new : Housed K) → i < length entries → JudgedSoFar signs basis means wanting (take i entries) old mid → (tasks : List Task) → HouseTried signs basis means None wanting tasks mid new
    → (more : List Task) → HouseWent signs wanting 0 (TaskPlays basis means) (to_judge_in old.house_log entries ++ more) old new
off-turn signs basis means wanting entries i old mid new lt s tasks t more =
    judged-off signs basis means wanting (take i entries) (get_or entries i 0 ∷ drop (suc i) entries) entries more old mid new (taken-here entries i 0 lt) s tasks t

pub judged-end : {K : Type 0} (signs : KeeperSigns K) (basis : Basis) (means : Means) (wanting : Bool) (entries : List ℕ) (i : ℕ) (old new : Housed K) → length entries ≤ i → JudgedSoFar signs basis means wanting (take i entries) old new → SoFar signs wanting 0 (TaskPlays basis means) (to_judge_in old.house_log entries) old new × RowsStay entries old.house_log new.house_log
judged-end signs basis means wanting entries i old new le s =
    let whole : JudgedSoFar signs basis means wanting entries old new = subst (λ (es : List ℕ). JudgedSoFar signs basis means wanting es old new) (take_all i entries le) s in
    (whole.so_far, whole.stays.rows)
