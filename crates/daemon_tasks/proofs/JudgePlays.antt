-- A row that may be judged.
use Rattle.std.proofs.Common.{◌≡◌, ℕ, ◌≤◌, Bool, true, false, ◌&&◌, ◌||◌, List, [], ◌∷◌, ◌++◌, map, refl, ap, sym, ◌∙◌, subst, inl, inr}
use Rattle.std.proofs.lemmas.Bool.{eqb-true, and_right}
use Rattle.std.proofs.lemmas.Option.{same_Some}
use Rattle.std.specs.Prelude.{Option, Some, None, Result, Ok, Err, ◌==◌, if◌then◌else◌, option_map, unwrap_or}
use Rattle.fw_facts.specs.Views.{is_home, version_of, version_shown}
use Rattle.fw_facts.specs.declared.seen.Seen.{Seen}
use Rattle.fw_facts.specs.declared.view.DeviceView.{DeviceView}
use Rattle.history_keeper.specs.Histories.{is_unsettled}
use Rattle.history_keeper.specs.Signs.{KeeperSigns}
use Rattle.history_keeper.specs.declared.row.Row.{Row}
use Rattle.history_keeper.specs.declared.row.RowState.{RowState}
use Rattle.update_log.proofs.Lists.{find-passes}
use Rattle.update_log.specs.declared.event.Event.{Event}
use Rattle.update_log.specs.declared.event.Stored.{Stored}
use Rattle.update_log.specs.declared.facts.Facts.{Facts}
use Rattle.update_log.specs.declared.live.LiveEntry.{LiveEntry}
use Rattle.update_log.specs.Boards.{Board, devices}
use Rattle.update_log.specs.Holding.{live}
use Rattle.update_log.specs.Known.{Basis, basis_of, Known, known, row_of, view_of, views, views_in}
use Rattle.update_log.specs.Legal.{may_judge}
use Rattle.update_log.specs.Pasts.{finished}
use Rattle.update_log.specs.Steps.{view_of_row}
use Rattle.daemon_core.proofs.HouseLogKept.{appended-past}
use Rattle.daemon_core.proofs.JudgeKept.{IsJudged, is-judged}
use Rattle.daemon_core.specs.declared.judged.Judged.{Judged}
use Rattle.daemon_core.specs.declared.judged.Standing.{Standing}
use Rattle.daemon_core.specs.declared.stop.Stop.{Stop}
use Rattle.daemon_core.specs.HouseLog.{Appended, IsHouseLog, SameFacts, Unchanged}
use Rattle.daemon_core.specs.Housed.{basis_in, HouseLogView, Housed, past, past_in, rows_before}
use Rattle.daemon_core.specs.Judging.{JudgeTurned, judged_by, judged_on, must_wait, standing, standing_of}
use Rattle.daemon_core.specs.Turns.{KeeperFared}
use Rattle.daemon_core.specs.Planned.{KeepsPlans}
use Rattle.client_plays.specs.Endings.{IsIdle}
use Rattle.client_plays.specs.Moments.{Moment, at}
use Rattle.client_plays.specs.Plays.{Task, TaskPlays, ToJudge}
use Rattle.client_plays.specs.Scripts.{PlaysAll, is_judgeable}
use Rattle.client_plays.specs.Tools.{Means}
use Rattle.client_plays.proofs.PlayLaws.{task-unplayed}
use Rattle.client_plays.proofs.RestLaws.{before-same}
use Rattle.daemon_tasks.specs.Judged.{HouseTried, JudgeStays, Tried, can_judge, to_judge, to_judge_in, told_by}
use Rattle.daemon_tasks.specs.Stays.{rows_at}
use Rattle.daemon_tasks.proofs.Rows.{others-judged, rows-halted}
use Rattle.daemon_tasks.proofs.Turns.{Halted, cut_past, did-appended, halted-did, halted-holds, halted-live, halted-memory, halted-off}

-- ---- how a row stands, and whether it can be judged

settled-not : (past : List Event) (entry : ℕ) (state : RowState) → is_unsettled state ≡ false → may_judge past state entry ≡ false
settled-not past entry RowState.Success u = refl
settled-not past entry RowState.Failed u = refl
settled-not past entry _ u = cc

waits-not : (past : List Event) (entry : ℕ) (state : RowState) → live past ≡ [] → must_wait past entry state ≡ true → may_judge past state entry ≡ false
waits-not past entry RowState.Pending l w = refl
waits-not past entry RowState.Begun l w = rw w refl
waits-not past entry RowState.NeedsReboot l w =
    let f : finished entry past ≡ true = rw l at w in rw f refl
waits-not past entry RowState.Success l w = cc
waits-not past entry RowState.Failed l w = cc

unshown : (view : DeviceView) → version_of view ≡ None → is_home view.seen ≡ false
unshown view h = by view.seen h
  where
    by : (s : Seen) → version_shown view.sheet s ≡ None → is_home s ≡ false
    by (Seen.Home raw mode) h = cc
    by Seen.Gone h = refl
    by Seen.Stranger h = refl

-- It stands otherwise than to be judged.
abbrev pub IsUnjudged : Standing → Type 0
IsUnjudged (Standing.Judged version state) = ⊥
IsUnjudged _ = Unit {0}

absent-not : (row : Row) (o : Option DeviceView) (s : Standing) → judged_on row o ≡ s → IsUnjudged s → unwrap_or (option_map (λ v. is_home v.seen) o) false ≡ false
absent-not row None s e n = refl
absent-not row (Some view) s e n = by (version_of view) refl e
  where
    by : (v : Option (List ℕ)) → version_of view ≡ v → judged_by row v ≡ s → is_home view.seen ≡ false
    by None h g = unshown view h
    by (Some version) h g = absurd (subst IsUnjudged (sym g) n)

unjudged-not : (past : List Event) (views : List DeviceView) (entry : ℕ) (row : Row) (s : Standing) → row.entry ≡ entry → live past ≡ [] → standing past views entry row ≡ s → IsUnjudged s → is_judgeable past views row ≡ false
unjudged-not past views entry row s e l h n =
    by (is_unsettled row.state) (must_wait past entry row.state) refl refl h
  where
    may : may_judge past row.state entry ≡ false → is_judgeable past views row ≡ false
    may m = rw (e, m) refl

    by : (u w : Bool) → is_unsettled row.state ≡ u → must_wait past entry row.state ≡ w → (if u then (if w then Standing.Waits else judged_on row (view_of_row views row)) else Standing.Settled) ≡ s → is_judgeable past views row ≡ false
    by false w eu ew g = may (settled-not past entry row.state eu)
    by true true eu ew g = may (waits-not past entry row.state l ew)
    by true false eu ew g = and_right (may_judge past row.state row.entry) _ (absent-not row (view_of_row views row) s g n)

-- The rows and views of the log, as they are kept.
standing-row : (a : HouseLogView) (entry : ℕ) (row : Row) → IsHouseLog a → row_of (rows_at a) entry ≡ Some row → standing_of a entry ≡ Some (standing (past_in a) (views (basis_in a) (past_in a)) entry row)
standing-row a entry row k r =
    ap (λ (v : List DeviceView). option_map (standing (past_in a) v entry) (row_of a.core.rows entry)) k.stands.views
    ∙ ap (λ (all : List Row). option_map (standing (past_in a) (views (basis_in a) (past_in a)) entry) (row_of all entry)) k.stands.rows
    ∙ ap (option_map (standing (past_in a) (views (basis_in a) (past_in a)) entry)) r

own-entry : (all : List Row) (entry : ℕ) (row : Row) → row_of all entry ≡ Some row → row.entry ≡ entry
own-entry all entry row r = eqb-true row.entry entry (find-passes (λ x. x.entry == entry) all row r)

can-not : (a : HouseLogView) (entry : ℕ) (row : Row) (s : Standing) → IsHouseLog a → live (past_in a) ≡ [] → row_of (rows_at a) entry ≡ Some row → standing_of a entry ≡ Some s → IsUnjudged s → can_judge (basis_in a) (past_in a) entry ≡ false
can-not a entry row s k l r h n =
    let V = views (basis_in a) (past_in a) in
    let is : standing (past_in a) V entry row ≡ s = same_Some (standing (past_in a) V entry row) s (sym (standing-row a entry row k r) ∙ h) in
    ap (λ (o : Option Row). unwrap_or (option_map (is_judgeable (past_in a) V) o) false) r
    ∙ unjudged-not (past_in a) V entry row s (own-entry (rows_at a) entry row r) l is n

judged-can : (past : List Event) (views : List DeviceView) (all : List Row) (entry : ℕ) (version : List ℕ) (state : RowState) → IsJudged past views all entry version state → unwrap_or (option_map (is_judgeable past views) (row_of all entry)) false ≡ true
judged-can past views all entry version state j =
    let e : j.row.entry ≡ entry = own-entry all entry j.row j.row_is in
    let may : may_judge past j.row.state j.row.entry ≡ true = ap (λ (n : ℕ). may_judge past j.row.state n) e ∙ j.waits in
    let home : unwrap_or (option_map (λ v. is_home v.seen) (view_of_row views j.row)) false ≡ true = ap (λ (o : Option DeviceView). unwrap_or (option_map (λ v. is_home v.seen) o) false) j.device ∙ j.home in
    ap (λ (o : Option Row). unwrap_or (option_map (is_judgeable past views) o) false) j.row_is
    ∙ both may home
  where
    both : {a b : Bool} → a ≡ true → b ≡ true → (a && b) ≡ true
    both x y = rw (x, y) refl

can-so : (a : HouseLogView) (entry : ℕ) (version : List ℕ) (state : RowState) → IsHouseLog a → standing_of a entry ≡ Some (Standing.Judged version state) → can_judge (basis_in a) (past_in a) entry ≡ true
can-so a entry version state k h =
    ap (λ (v : List DeviceView). unwrap_or (option_map (is_judgeable (past_in a) v) (row_of (rows_at a) entry)) false) (sym k.stands.views)
    ∙ ap (λ (all : List Row). unwrap_or (option_map (is_judgeable (past_in a) a.core.views) (row_of all entry)) false) (sym k.stands.rows)
    ∙ judged-can (past_in a) a.core.views a.core.rows entry version state (is-judged (past_in a) a.core.views a.core.rows entry version state h)

-- ---- the task of one entry

one-can : (basis : Basis) (past : List Event) (entry : ℕ) → can_judge basis past entry ≡ true → to_judge basis past (entry ∷ []) ≡ ToJudge entry ∷ []
one-can basis past entry h = rw h refl

one-not : (basis : Basis) (past : List Event) (entry : ℕ) → can_judge basis past entry ≡ false → to_judge basis past (entry ∷ []) ≡ []
one-not basis past entry h = rw h refl

one-plays : {X : Type 0} (wanting : Bool) (client : ℕ) (Play : X → List Moment → Type 0) (x : X) (moments : List Moment) → Play x moments → PlaysAll wanting client Play (x ∷ []) (moments ++ [])
one-plays true client Play x moments p = record { first = moments; rest = []; are = refl; first_is = inl p; rest_is = refl }
one-plays false client Play x moments p = record { first = moments; rest = []; are = refl; first_is = p; rest_is = refl }

-- Whatever there was to do was left.
pub all-nothing : (basis : Basis) (means : Means) (tasks : List Task) → PlaysAll true 0 (TaskPlays basis means) tasks []
all-nothing basis means [] = refl
all-nothing basis means (t ∷ tasks) = record { first = []; rest = []; are = refl; first_is = inr (record { left = task-unplayed basis means 0 t; untaken = refl }); rest_is = all-nothing basis means tasks }

module _ {K : Type 0} (signs : KeeperSigns K) (basis : Basis) (means : Means) (entry : ℕ) (row : Row) (wanting : Bool) (old new : Housed K)
    (k : IsHouseLog old.house_log) (i : IsIdle (past old)) (r : row_of (rows_at old.house_log) entry ≡ Some row)
    (counted : KeeperFared signs old new) (counts : signs.faults old.keeper ≤ signs.faults new.keeper) (keeps : KeepsPlans old.places new.places) where
  tasks : List Task
  tasks = to_judge_in old.house_log (entry ∷ [])

  quiet : (stop : Stop) (told : Option Bool) → Halted stop old.house_log new.house_log → Tried basis means told wanting (to_judge_in old.house_log (entry ∷ [])) (past new) [] → HouseTried signs basis means told wanting (to_judge_in old.house_log (entry ∷ [])) old new
  quiet stop told h m =
      record {
        moments = [];
        did = halted-did 0 stop old.house_log new.house_log h;
        more = m;
        rest = record {
          idle = record { no_hold = halted-holds stop old.house_log new.house_log h ∙ i.no_hold; no_live = halted-live stop old.house_log new.house_log h ∙ i.no_live };
          same = h.same;
          counted = counted;
          counts = counts;
          plans = keeps;
        };
      }

  unjudged : (s : Standing) → standing_of old.house_log entry ≡ Some s → IsUnjudged s → Unchanged old.house_log new.house_log → HouseTried signs basis means (Some wanting) wanting (to_judge_in old.house_log (entry ∷ [])) old new
  unjudged s h n u =
      let none = one-not (basis_in old.house_log) (past old) entry (can-not old.house_log entry row s k i.no_live r h n) in
      quiet Stop.NoMemory (Some wanting) (halted-memory old.house_log new.house_log u)
      (inr refl, subst (λ (ts : List Task). PlaysAll wanting 0 (TaskPlays basis means) ts []) (sym none) refl)

  judged : (version : List ℕ) (state : RowState) (stored : Stored) → standing_of old.house_log entry ≡ Some (Standing.Judged version state) → Appended 0 (Event.Judge 0 entry version state stored) old.house_log new.house_log → HouseTried signs basis means (Some wanting) wanting (to_judge_in old.house_log (entry ∷ [])) old new
  judged version state stored h a =
      let event = Event.Judge 0 entry version state stored in
      let one = one-can (basis_in old.house_log) (past old) entry (can-so old.house_log entry version state k h) in
      record {
        moments = at (past old) event ∷ [];
        did = did-appended 0 event old.house_log new.house_log (record { no_boot = refl; own = refl }) a;
        more = (
          inr refl,
          subst (λ (ts : List Task). PlaysAll wanting 0 (TaskPlays basis means) ts (at (past old) event ∷ [])) (sym one)
              (one-plays wanting 0 (TaskPlays basis means) (ToJudge entry) (at (past old) event ∷ []) (version, state, stored, refl)),
        );
        rest = record {
          idle = subst IsIdle (sym (appended-past 0 event old.house_log new.house_log a)) (record { no_hold = i.no_hold; no_live = i.no_live });
          same = a.same;
          counted = counted;
          counts = counts;
          plans = keeps;
        };
      }

  pub tried : (outcome : Result Judged Stop) → JudgeTurned 0 entry outcome old.house_log new.house_log → HouseTried signs basis means (told_by outcome wanting) wanting (to_judge_in old.house_log (entry ∷ [])) old new
  tried (Ok (Judged.Done state stored)) t = judged t.1.0 state stored t.1.1 t.1.2
  tried (Ok Judged.Absent) t = unjudged Standing.Absent t.1 tt t.2
  tried (Ok Judged.Waits) t = unjudged Standing.Waits t.1 tt t.2
  tried (Ok Judged.Settled) t = unjudged Standing.Settled t.1 tt t.2
  tried (Err Stop.NoMemory) t =
      quiet Stop.NoMemory (Some true) (halted-memory old.house_log new.house_log t.1) (inl refl, all-nothing basis means (to_judge_in old.house_log (entry ∷ [])))
  tried (Err Stop.Off) t =
      let h = halted-off 0 old.house_log new.house_log t in quiet Stop.Off None h (refl, h.is_off refl)

-- ---- what stays

views-over : (old new : HouseLogView) (p : List Event) → SameFacts old new → past_in new ≡ p → views (basis_in new) (past_in new) ≡ views (basis_in old) p
views-over old new p s e =
    ap (λ (f : Facts). views (basis_of f (rows_before new)) (past_in new)) s.facts
    ∙ ap (λ (o : List Row). views (basis_of old.facts o) (past_in new)) (before-same old new s)
    ∙ ap (λ (w : List Event). views (basis_in old) w) e

dead-views : (k j : Known) (boards : List Board) → ((b : ℕ) → j.shown b ≡ k.shown b) → map (view_of [] j) boards ≡ map (view_of [] k) boards
dead-views k j [] h = refl
dead-views k j (b ∷ boards) h =
    ap (λ (s : Seen). (let v : DeviceView = record { sheet = b.sheet; seen = s; claim = None } in v) ∷ map (view_of [] j) boards) (h b.number)
    ∙ ap (λ (vs : List DeviceView). view_of [] k b ∷ vs) (dead-views k j boards h)

views-dead : (facts : Facts) (k j : Known) (entries : List LiveEntry) → entries ≡ [] → ((b : ℕ) → j.shown b ≡ k.shown b) → views_in facts entries j ≡ views_in facts entries k
views-dead facts k j entries e h = subst (λ (es : List LiveEntry). views_in facts es j ≡ views_in facts es k) (sym e) (dead-views k j (devices facts) h)

judge-views : (basis : Basis) (past : List Event) (client entry : ℕ) (version : List ℕ) (state : RowState) (stored : Stored) → live past ≡ [] → views basis (Event.Judge client entry version state stored ∷ past) ≡ views basis past
judge-views basis past client entry version state stored l =
    views-dead basis.facts (known basis past) (known basis (Event.Judge client entry version state stored ∷ past)) (live past) l (λ b. refl)

cut-views : (basis : Basis) (past : List Event) (cut : Bool) → live past ≡ [] → views basis (cut_past cut past) ≡ views basis past
cut-views basis past true l = views-dead basis.facts (known basis past) (known basis (Event.Cut ∷ past)) (live past) l (λ b. refl)
cut-views basis past false l = refl

cut-finished : (entry : ℕ) (cut : Bool) (past : List Event) → finished entry (cut_past cut past) ≡ finished entry past
cut-finished entry true past = refl
cut-finished entry false past = refl

or-first : (a b : Bool) → (a || b) ≡ false → a ≡ false
or-first true b h = cc
or-first false b h = refl

stays-judged : (entry : ℕ) (version : List ℕ) (state : RowState) (stored : Stored) (old new : HouseLogView) → live (past_in old) ≡ [] → Appended 0 (Event.Judge 0 entry version state stored) old new → JudgeStays (entry ∷ []) old new
stays-judged entry version state stored old new l a =
    let event = Event.Judge 0 entry version state stored in
    let e = appended-past 0 event old new a in
    record {
      rows = λ other h. others-judged entry version state stored old new a other (or-first (entry == other) false h);
      views = views-over old new (event ∷ past_in old) a.same e ∙ judge-views (basis_in old) (past_in old) 0 entry version state stored l;
      finished = λ n. ap (finished n) e;
    }

stays-halted : (entry : ℕ) (stop : Stop) (old new : HouseLogView) → live (past_in old) ≡ [] → Halted stop old new → JudgeStays (entry ∷ []) old new
stays-halted entry stop old new l h =
    record {
      rows = λ other n. rows-halted stop old new h other;
      views = views-over old new (cut_past h.cut (past_in old)) h.same h.past_is ∙ cut-views (basis_in old) (past_in old) h.cut l;
      finished = λ n. ap (finished n) h.past_is ∙ cut-finished n h.cut (past_in old);
    }

pub tried-stays : (entry : ℕ) (outcome : Result Judged Stop) (old new : HouseLogView) → live (past_in old) ≡ [] → JudgeTurned 0 entry outcome old new → JudgeStays (entry ∷ []) old new
tried-stays entry (Ok (Judged.Done state stored)) old new l t = stays-judged entry t.1.0 state stored old new l t.1.2
tried-stays entry (Ok Judged.Absent) old new l t = stays-halted entry Stop.NoMemory old new l (halted-memory old new t.2)
tried-stays entry (Ok Judged.Waits) old new l t = stays-halted entry Stop.NoMemory old new l (halted-memory old new t.2)
tried-stays entry (Ok Judged.Settled) old new l t = stays-halted entry Stop.NoMemory old new l (halted-memory old new t.2)
tried-stays entry (Err Stop.NoMemory) old new l t = stays-halted entry Stop.NoMemory old new l (halted-memory old new t.1)
tried-stays entry (Err Stop.Off) old new l t = stays-halted entry Stop.Off old new l (halted-off 0 old new t)
