-- A story in which a client asks a question, or takes a board out of its port.
use Rattle.std.proofs.Common.{◌≡◌, ℕ, ◌+◌, ◌≤◌, Bool, true, false, ◌&&◌, List, [], ◌∷◌, length, None, refl, ap, sym, ◌∙◌, arith}
use Rattle.std.specs.Prelude.{Option, Some, IfSome, unwrap_or}
use Rattle.std.specs.List.{list_any}
use Rattle.std.specs.Str.{bytes_eq}
use Rattle.fw_facts.specs.Views.{is_home}
use Rattle.fw_facts.specs.declared.seen.Seen.{Seen}
use Rattle.fw_facts.specs.declared.view.DeviceView.{DeviceView}
use Rattle.device_list.specs.declared.selector.Selector.{Selector}
use Rattle.history_keeper.specs.declared.row.Row.{Row}
use Rattle.history_keeper.specs.declared.row.RowState.{RowState}
use Rattle.update_log.proofs.Lists.{by_test}
use Rattle.update_log.specs.Known.{Basis, rows, views}
use Rattle.update_log.specs.Legal.{PlugAnswered, QueryAllowed, UnplugAllowed, can_judge, found_view, may_judge, unplug_refused}
use Rattle.update_log.specs.declared.answer.PlugAnswer.{PlugAnswer}
use Rattle.update_log.specs.declared.event.Event.{Event}
use Rattle.update_log.specs.declared.event.Query.{Query}
use Rattle.log_stories.specs.Stories.{IsStory, RunsOn, StoryTold, is_settle, past, unplug_answer, waits, waits_in}

-- ---- questions

other-allowed : (basis : Basis) (past : List Event) (query : Query) → is_settle query ≡ false → QueryAllowed basis past query
other-allowed basis past (Query.Settle device) h = absurd (cc)
other-allowed basis past _ h = tt

not-judged : (past : List Event) (state : RowState) (entry : ℕ) → waits_in state ≡ false → may_judge past state entry ≡ false
not-judged past RowState.Begun entry h = absurd (cc)
not-judged past RowState.NeedsReboot entry h = absurd (cc)
not-judged past _ entry h = refl

no-and : (a b c : Bool) → c ≡ false → (a && b && c) ≡ false
no-and true true c h = h
no-and true false c h = refl
no-and false b c h = refl

none-judged : (past : List Event) (view : DeviceView) (all : List Row) → list_any waits all ≡ false → list_any (can_judge past view) all ≡ false
none-judged past view [] h = refl
none-judged past view (row ∷ all) h =
    by_test (waits_in row.state) _
    (λ t. let wrong = rw t at h in absurd (cc))
    (λ t.
    let rest = rw t at h in
    let no : can_judge past view row ≡ false = no-and (bytes_eq view.sheet.device row.device) (is_home view.seen) (may_judge past row.state row.entry) (not-judged past row.state row.entry t) in
    rw no (none-judged past view all rest))

settle-view : (past : List Event) (all : List Row) (view : Option DeviceView) → list_any waits all ≡ false → IfSome view (λ v. list_any (can_judge past v) all ≡ false)
settle-view past all None h = tt
settle-view past all (Some view) h = none-judged past view all h

pub asked-runs : (basis : Basis) (past : List Event) (client : ℕ) (query : Query) → RunsOn basis past → QueryAllowed basis past query
    → RunsOn basis (Event.Query client query ∷ past)
asked-runs basis past client query r q =
    record {
      first = r.first;
      plans = r.plans;
      legal = (
        r.legal,
        record { booted = λ h. r.booted; on = λ h. r.on; below = λ h. rw r.limit tt },
        q,
      );
      booted = r.booted;
      on = r.on;
      limit = r.limit;
    }

pub other-story : (s : StoryTold) (client : ℕ) (query : Query) → IsStory s → is_settle query ≡ false → RunsOn s.basis (Event.Query client query ∷ past s)
other-story s client query k h = asked-runs s.basis (past s) client query k.runs (other-allowed s.basis (past s) query h)

pub settle-story : (s : StoryTold) (client : ℕ) (device : Selector) → IsStory s → list_any waits s.core.rows ≡ false → RunsOn s.basis (Event.Query client (Query.Settle device) ∷ past s)
settle-story s client device k h =
    asked-runs s.basis (past s) client (Query.Settle device) k.runs
    (settle-view (past s) (rows s.basis (past s)) (found_view (views s.basis (past s)) device) (ap (list_any waits) (sym k.stands.rows) ∙ h))

pub asked-rows : (s : StoryTold) (client : ℕ) (query : Query) → IsStory s → length (rows s.basis (Event.Query client query ∷ past s)) ≤ length s.core.rows + s.core.row_room
asked-rows s client query k =
    let same : length (rows s.basis (past s)) ≡ length s.core.rows = ap length (sym k.stands.rows) in
    omega (arith, same)

-- ---- an unplug

answered : (Shows : Seen → Type 0) (refused : Option PlugAnswer) → Shows Seen.Gone → PlugAnswered refused Shows (unwrap_or refused (PlugAnswer.Done Seen.Gone))
answered Shows None h = h
answered Shows (Some answer) h = refl

unplug-allowed : (basis : Basis) (past : List Event) (vs : List DeviceView) (device : Selector) (answer : PlugAnswer) → vs ≡ views basis past → answer ≡ unplug_answer (found_view vs device)
    → UnplugAllowed basis past device answer
unplug-allowed basis past vs device answer v a =
    rw (a, v) (answered (λ (seen : Seen). seen ≡ Seen.Gone) (unplug_refused (found_view (views basis past) device)) refl)

pub unplug-story : (s : StoryTold) (client : ℕ) (device : Selector) (answer : PlugAnswer) → IsStory s → answer ≡ unplug_answer (found_view s.core.views device)
    → RunsOn s.basis (Event.Unplug client device answer ∷ past s)
unplug-story s client device answer k a =
    let r = k.runs in
    record {
      first = r.first;
      plans = r.plans;
      legal = (
        r.legal,
        record { booted = λ h. r.booted; on = λ h. r.on; below = λ h. rw r.limit tt },
        (unplug-allowed s.basis (past s) s.core.views device answer k.stands.views a),
      );
      booted = r.booted;
      on = r.on;
      limit = r.limit;
    }

pub unplug-rows : (s : StoryTold) (client : ℕ) (device : Selector) (answer : PlugAnswer) → IsStory s → length (rows s.basis (Event.Unplug client device answer ∷ past s)) ≤ length s.core.rows + s.core.row_room
unplug-rows s client device answer k =
    let same : length (rows s.basis (past s)) ≡ length s.core.rows = ap length (sym k.stands.rows) in
    omega (arith, same)
