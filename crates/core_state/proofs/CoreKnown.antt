-- What one event makes of the rows and of the change in doubt, over what is kept.
use Rattle.std.proofs.Common.{◌≡◌, ℕ, Bool, true, false, List, refl, ap, ◌∙◌}
use Rattle.std.specs.Prelude.{Option, Some, None, if◌then◌else◌}
use Rattle.history_keeper.specs.declared.change.Change.{Change}
use Rattle.history_keeper.specs.declared.row.Row.{Row}
use Rattle.history_keeper.specs.declared.row.RowState.{RowState}
use Rattle.update_log.proofs.Lists.{by_test}
use Rattle.core_state.specs.CoreSteps.{change_on, changed_if, doubt_at, kept_by, made_at, made_by, resumption_on}
use Rattle.update_log.specs.Known.{Fate, Known, addition, doubt_after, doubt_by, fate_stored, resumption, rows_after, rows_by, rows_found, views_in}
use Rattle.update_log.specs.Pasts.{is_keeper_fault}
use Rattle.update_log.specs.declared.answer.ClaimAnswer.{ClaimAnswer}
use Rattle.update_log.specs.declared.answer.ResumeAnswer.{ResumeAnswer}
use Rattle.update_log.specs.declared.event.Event.{Event}
use Rattle.update_log.specs.declared.event.Found.{Found}
use Rattle.update_log.specs.declared.facts.Facts.{Facts}
use Rattle.update_log.specs.declared.live.LiveEntry.{LiveEntry}

made-rows : (fate : Fate) (change : Option Change) (rows : List Row) → rows_by fate change rows ≡ changed_if (made_by fate change) rows
made-rows Fate.Made None rows = refl
made-rows _ _ rows = refl

found-rows : (found : Found) (change : Option Change) (rows : List Row) → rows_found found change rows ≡ changed_if (kept_by found change) rows
found-rows Found.Kept None rows = refl
found-rows _ _ rows = refl

-- Refused, it isn't made.
refused-rows : (b : Bool) (change other : Option Change) (rows : List Row)
    → rows_by (if b then Fate.Doubtful else Fate.Dropped) change rows ≡ changed_if (made_by (if b then Fate.Doubtful else Fate.Dropped) other) rows
refused-rows true change other rows = refl
refused-rows false change other rows = refl

refused-doubt : (b : Bool) (change doubt : Option Change)
    → doubt_by (if b then Fate.Doubtful else Fate.Dropped) change doubt ≡ doubt_by (if b then Fate.Doubtful else Fate.Dropped) (if b then change else None) doubt
refused-doubt true change doubt = refl
refused-doubt false change doubt = refl

resumed : (time : ℕ) (known : Known) (entry : ℕ) (answer : ResumeAnswer) → resumption time known entry answer ≡ Some (resumption_on time known.rows entry answer)
resumed time known entry ResumeAnswer.Begun = refl
resumed time known entry (ResumeAnswer.Refused refusal) = by_test (is_keeper_fault refusal) _ (λ t. rw t refl) (λ t. rw t refl)

pub rows-made : (facts : Facts) (time : ℕ) (entries : List LiveEntry) (known : Known) (event : Event)
    → rows_after facts time entries known event ≡ changed_if (made_at event (change_on facts time (views_in facts entries known) known.rows event) known.doubt) known.rows
rows-made facts time entries known (Event.Boot number new_time limit found boards) = found-rows found known.doubt known.rows
rows-made facts time entries known (Event.Claim client request fetched (ClaimAnswer.Entry entry)) =
    made-rows Fate.Made (addition facts time entries known client request RowState.Begun) known.rows
rows-made facts time entries known (Event.Claim client request fetched (ClaimAnswer.Refused refusal)) =
    refused-rows (is_keeper_fault refusal) (addition facts time entries known client request RowState.Begun)
    (change_on facts time (views_in facts entries known) known.rows (Event.Claim client request fetched (ClaimAnswer.Refused refusal))) known.rows
rows-made facts time entries known (Event.Schedule client request (ClaimAnswer.Entry entry)) =
    made-rows Fate.Made (addition facts time entries known client request RowState.Pending) known.rows
rows-made facts time entries known (Event.Schedule client request (ClaimAnswer.Refused refusal)) =
    refused-rows (is_keeper_fault refusal) (addition facts time entries known client request RowState.Pending)
    (change_on facts time (views_in facts entries known) known.rows (Event.Schedule client request (ClaimAnswer.Refused refusal))) known.rows
rows-made facts time entries known (Event.Resume client entry fetched answer stored) =
    ap (λ (o : Option Change). rows_by (fate_stored stored) o known.rows) (resumed time known entry answer)
    ∙ made-rows (fate_stored stored) (Some (resumption_on time known.rows entry answer)) known.rows
rows-made facts time entries known (Event.Finish client entry state stored) = made-rows (fate_stored stored) _ known.rows
rows-made facts time entries known (Event.Judge client entry version state stored) = made-rows (fate_stored stored) _ known.rows
rows-made facts time entries known _ = refl

pub doubt-made : (facts : Facts) (time : ℕ) (entries : List LiveEntry) (known : Known) (event : Event)
    → doubt_after facts time entries known event ≡ doubt_at event (change_on facts time (views_in facts entries known) known.rows event) known.doubt
doubt-made facts time entries known (Event.Claim client request fetched (ClaimAnswer.Refused refusal)) =
    refused-doubt (is_keeper_fault refusal) (addition facts time entries known client request RowState.Begun) known.doubt
doubt-made facts time entries known (Event.Schedule client request (ClaimAnswer.Refused refusal)) =
    refused-doubt (is_keeper_fault refusal) (addition facts time entries known client request RowState.Pending) known.doubt
doubt-made facts time entries known (Event.Resume client entry fetched answer stored) =
    ap (λ (o : Option Change). doubt_by (fate_stored stored) o known.doubt) (resumed time known entry answer)
doubt-made facts time entries known _ = refl
