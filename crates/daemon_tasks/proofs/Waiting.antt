-- A row that was put off waits as long as the daemon leaves it alone, whatever others do.
use Rattle.std.proofs.Common.{◌≡◌, ℕ, ◌<◌, ◌+◌, Bool, true, false, List, [], ◌∷◌, ◌++◌, map, take, drop, suc, length, get_or, refl, ap, sym, ◌∙◌, subst, append-nil, append_assoc}
use Rattle.std.proofs.lemmas.List.{map-append}
use Rattle.std.specs.Prelude.{Option, Some, ◌==◌, if◌then◌else◌}
use Rattle.std.specs.List.{list_any}
use Rattle.history_keeper.specs.declared.row.Row.{Row}
use Rattle.history_keeper.specs.declared.row.RowState.{RowState}
use Rattle.history_keeper.specs.Histories.{IsHistory}
use Rattle.update_log.proofs.Lists.{by_test}
use Rattle.update_log.specs.declared.event.Event.{Event}
use Rattle.update_log.specs.Known.{row_of, rows}
use Rattle.update_log.specs.Legal.{IsLegal}
use Rattle.update_log.specs.Pasts.{is_boot, is_of}
use Rattle.update_log.specs.Shows.{campaign_on, Campaign}
use Rattle.client_plays.specs.Moments.{Grew, Moment, at, mine}
use Rattle.client_plays.specs.Plays.{TaskPlays, ToResume}
use Rattle.client_plays.specs.Scripts.{PlaysAll}
use Rattle.client_plays.specs.Tools.{Files, Means, means_of}
use Rattle.client_plays.proofs.ListLaws.{taken-here, taken-more}
use Rattle.client_plays.proofs.MomentLaws.{mine-other, mine-own}
use Rattle.plugin_trait.specs.Steps.{PluginSteps}
use Rattle.turn_lock.specs.Shown.{IsFresh, LockId, PassView}
use Rattle.shared_daemon.specs.declared.entry.Entry.{Entry}
use Rattle.shared_daemon.specs.Entries.{past_seen}
use Rattle.shared_daemon.specs.Names.{IsLogOf, IsPass, Name}
use Rattle.shared_daemon.proofs.OthersRows.{advances, row-same, unadvanced}
use Rattle.script_runs.proofs.GoingLaws.{EndedMore}
use Rattle.script_runs.specs.Passes.{SoFar, own}
use Rattle.daemon_tasks.specs.Waits.{AllWait, AreApart, WaitsIn, rows_seen}
use Rattle.daemon_tasks.proofs.JudgeLoops.{not-before}
use Rattle.daemon_tasks.proofs.Pasts.{log-grew}
use Rattle.daemon_tasks.proofs.Spares.{Spares, all-parts, all-spare, or-none}

-- A client's own moments among newer events of one boot.
abbrev since_after : ℕ → List Event → Event → List Moment → List Moment
since_after client past event before = if is_of client event then before ++ at past event ∷ [] else before

abbrev pub since : ℕ → List Event → List Event → List Moment
since client [] past = []
since client (event ∷ newer) past = since_after client (newer ++ past) event (since client newer past)

since-own : (client : ℕ) (event : Event) (newer past : List Event) → is_of client event ≡ true → since client (event ∷ newer) past ≡ since client newer past ++ at (newer ++ past) event ∷ []
since-own client event newer past t = rw t refl

since-other : (client : ℕ) (event : Event) (newer past : List Event) → is_of client event ≡ false → since client (event ∷ newer) past ≡ since client newer past
since-other client event newer past f = rw f refl

mine-since : (client : ℕ) (newer past : List Event) → list_any is_boot newer ≡ false → mine client (newer ++ past) ≡ mine client past ++ since client newer past
mine-since client [] past b = sym (append-nil (mine client past))
mine-since client (event ∷ newer) past b =
    let p = or-none (is_boot event) (list_any is_boot newer) b in
    let rest = mine-since client newer past p.1 in
    by_test (is_of client event) _
    (λ t. mine-own client (newer ++ past) event p.0 t
    ∙ ap (λ (l : List Moment). l ++ at (newer ++ past) event ∷ []) rest
    ∙ append_assoc (mine client past) (since client newer past) (at (newer ++ past) event ∷ [])
    ∙ ap (λ (l : List Moment). mine client past ++ l) (sym (since-own client event newer past t)))
    (λ f. mine-other client (newer ++ past) event p.0 f ∙ rest ∙ ap (λ (l : List Moment). mine client past ++ l) (sym (since-other client event newer past f)))

-- Of such a row the daemon's own events alone ask for another state.
row-waits : (c : Campaign) (newer past : List Event) (entry : ℕ) (row : Row) → IsHistory c.basis.opening → IsLegal c (newer ++ past) → list_any is_boot newer ≡ false → Spares entry (since 0 newer past)
    → row_of (rows c.basis past) entry ≡ Some row → row.state ≡ RowState.Pending → row_of (rows c.basis (newer ++ past)) entry ≡ Some row
row-waits c [] past entry row v legal b s is w = is
row-waits c (event ∷ newer) past entry row v legal b s is w =
    let p = or-none (is_boot event) (list_any is_boot newer) b in
    by_test (is_of 0 event) _
    (λ t.
    let all = all-parts (λ m. advances entry m.event ≡ false) (since 0 newer past) (at (newer ++ past) event ∷ []) (subst (Spares entry) (since-own 0 event newer past t) s) in
    row-same c.basis (newer ++ past) event entry row p.0 all.1.0 (row-waits c newer past entry row v legal.0 p.1 all.0 is w))
    (λ f.
    let rest = row-waits c newer past entry row v legal.0 p.1 (subst (Spares entry) (since-other 0 event newer past f) s) is w in
    row-same c.basis (newer ++ past) event entry row p.0 (unadvanced c (newer ++ past) event entry row v legal.0 legal.2 (record { no_boot = p.0; not_of = f }) rest w) rest)

tail-same : (x : Moment) (xs ys : List Moment) → x ∷ xs ≡ x ∷ ys → xs ≡ ys
tail-same x xs ys e = cc

append-same : (front xs ys : List Moment) → front ++ xs ≡ front ++ ys → xs ≡ ys
append-same [] xs ys e = e
append-same (x ∷ front) xs ys e = append-same front xs ys (tail-same x (front ++ xs) (front ++ ys) e)

-- So it waits in every log of a daemon whose own moments since it began leave it alone.
pub still-waits : (name : Name) (log : List Entry) (entry : ℕ) (moments : List Moment) → IsLogOf name name.start → IsLogOf name log → mine 0 (past_seen log) ≡ mine 0 (past_seen name.start) ++ moments → Spares entry moments
    → WaitsIn (rows_seen name name.start) entry → WaitsIn (rows_seen name log) entry
still-waits name log entry moments s l e sp w =
    let g : Grew (past_seen name.start) (past_seen log) = log-grew name log s l in
    let P : List Event → Type 0 = λ p. row_of (rows name.basis p) entry ≡ Some w.row in
    let own : moments ≡ since 0 g.more (past_seen name.start) =
    append-same (mine 0 (past_seen name.start)) moments (since 0 g.more (past_seen name.start)) (sym e ∙ ap (mine 0) g.are ∙ mine-since 0 g.more (past_seen name.start) g.no_boot) in
    let there : P (g.more ++ past_seen name.start) =
    row-waits (campaign_on name.basis name.first l.legal.0) g.more (past_seen name.start) entry w.row l.history
    (subst (IsLegal (campaign_on name.basis name.first l.legal.0)) g.are l.legal.1) g.no_boot (subst (Spares entry) own sp) w.row_is w.pending in
    record {
      row = w.row;
      row_is = subst P (sym g.are) there;
      pending = w.pending;
    }

-- ---- the next of a list

wait-at : (all : List Row) (before : List ℕ) (entry : ℕ) (later : List ℕ) → AllWait all (before ++ entry ∷ later) → WaitsIn all entry
wait-at all [] entry later w = w.0
wait-at all (x ∷ before) entry later w = wait-at all before entry later w.1

pub next-waits : (all : List Row) (entries : List ℕ) (i : ℕ) → i < length entries → AllWait all entries → WaitsIn all (get_or entries i 0)
next-waits all entries i lt w = wait-at all (take i entries) (get_or entries i 0) (drop (suc i) entries) (subst (AllWait all) (sym (taken-here entries i 0 lt)) w)

pub next-apart : (entries : List ℕ) (i : ℕ) → i < length entries → AreApart entries → list_any (λ e. e == get_or entries i 0) (take i entries) ≡ false
next-apart entries i lt a = not-before (take i entries) (get_or entries i 0) (drop (suc i) entries) entries (taken-here entries i 0 lt) a

-- An entry that is still to be resumed waits, whatever those before it did.
pub wait-turn : (name : Name) (lock : LockId) (first pass : PassView Entry) → first.number ≡ 0 → IsFresh name.start first → IsPass lock name first → IsPass lock name pass → (entries : List ℕ) (i : ℕ) → i < length entries → AllWait (rows_seen name name.start) entries → AreApart entries
    → (wanting : Bool) (means : Means) → SoFar wanting (TaskPlays name.basis means) (map ToResume (take i entries)) first pass → WaitsIn (rows_seen name pass.seen) (get_or entries i 0)
wait-turn name lock first pass z f p q entries i lt w a wanting means s =
    let start : IsLogOf name name.start = subst (λ (list : List Entry). IsLogOf name list) f.0 p.log in
    let here : own first ≡ mine 0 (past_seen name.start) = ap (λ (n : ℕ). mine n (past_seen first.seen)) z ∙ ap (λ (list : List Entry). mine 0 (past_seen list)) f.0 in
    let now : mine 0 (past_seen pass.seen) ≡ own pass = ap (λ (n : ℕ). mine n (past_seen pass.seen)) (sym (s.did.same ∙ z)) in
    still-waits name pass.seen (get_or entries i 0) s.moments start q.log (now ∙ s.did.own_are ∙ ap (λ (l : List Moment). l ++ s.moments) here)
    (all-spare name.basis means wanting (get_or entries i 0) (take i entries) s.moments (next-apart entries i lt a)
    (subst (λ (n : ℕ). PlaysAll wanting n (TaskPlays name.basis means) (map ToResume (take i entries)) s.moments) z s.plays))
    (next-waits (rows_seen name name.start) entries i lt w)

pub resumed-more : (entries : List ℕ) (i : ℕ) → i < length entries → map ToResume (take i entries) ++ ToResume (get_or entries i 0) ∷ [] ≡ map ToResume (take (i + 1) entries)
resumed-more entries i lt = sym (map-append ToResume (take i entries) (get_or entries i 0 ∷ [])) ∙ ap (map ToResume) (taken-more entries i 0 lt)

pub resumed-here : (entries : List ℕ) (i : ℕ) → i < length entries → map ToResume (take i entries) ++ ToResume (get_or entries i 0) ∷ map ToResume (drop (suc i) entries) ≡ map ToResume entries
resumed-here entries i lt = sym (map-append ToResume (take i entries) (get_or entries i 0 ∷ drop (suc i) entries)) ∙ ap (map ToResume) (taken-here entries i 0 lt)

-- The files of the daemon's shelf are the same all along.
pub same-resumes : (name : Name) (told : Option Bool) (wanting : Bool) (entry : ℕ) (plugins : ℕ → PluginSteps) (files now : Files) (old new : PassView Entry) → now ≡ files → EndedMore told wanting (TaskPlays name.basis (means_of now plugins) (ToResume entry)) old new
    → EndedMore told wanting (TaskPlays name.basis (means_of files plugins) (ToResume entry)) old new
same-resumes name told wanting entry plugins files now old new e m = subst (λ (x : Files). EndedMore told wanting (TaskPlays name.basis (means_of x plugins) (ToResume entry)) old new) e m
