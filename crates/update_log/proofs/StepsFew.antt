-- A trace has fewer than six steps where a step is to end.
use Rattle.std.proofs.Common.{◌≡◌, ℕ, List, [], ◌∷◌, ◌<◌, ◌≤◌, arith, length}
use Rattle.std.specs.Prelude.{Option, Some, None, Result, IfSome, ◌==◌, option_map}
use Rattle.std.proofs.lemmas.List.{length_push}
use Rattle.std.proofs.lemmas.Bool.{eqb-true}
use Rattle.emulated_boards.specs.declared.fault.BoardFault.{BoardFault}
use Rattle.emulated_boards.specs.declared.mark.Mark.{Mark}
use Rattle.fw_facts.specs.declared.seen.Seen.{Seen}
use Rattle.fw_facts.specs.declared.view.DeviceView.{DeviceView}
use Rattle.history_keeper.specs.Histories.{IsHistory}
use Rattle.update_log.proofs.LegalOnce.{past-kept-on}
use Rattle.update_log.proofs.Lists.{by_test}
use Rattle.update_log.proofs.StepsKept.{StepsKept, open-started}
use Rattle.update_log.proofs.StrokeFacts.{last_ended}
use Rattle.update_log.specs.Holding.{holds, request_held}
use Rattle.update_log.specs.Known.{Target, target, views}
use Rattle.update_log.specs.Legal.{Allowed, EndAllowed, IsLegalUnlimited}
use Rattle.update_log.specs.Once.{InOrder, Stroke, strokes}
use Rattle.update_log.specs.Shows.{Campaign}
use Rattle.update_log.specs.Steps.{first_trace, op_number, trace, traced, with_step}
use Rattle.update_log.specs.declared.answer.ClaimAnswer.{ClaimAnswer}
use Rattle.update_log.specs.declared.answer.ResumeAnswer.{ResumeAnswer}
use Rattle.update_log.specs.declared.event.Event.{Event}
use Rattle.update_log.specs.declared.event.Op.{Op}
use Rattle.update_log.specs.declared.facts.Facts.{Facts}
use Rattle.update_log.specs.declared.request.Request.{Request}
use Rattle.update_log.specs.declared.trace.Trace.{Trace}
use Rattle.update_log.specs.declared.trace.TraceStep.{TraceStep}

-- The trace, where there is one, has at most so many steps.
abbrev AtMost : ℕ → Option Trace → Type 0
AtMost n o = IfSome o (λ t. length t.steps ≤ n)

first-few : (o : Option Target) (n : ℕ) → AtMost n (option_map first_trace o)
first-few None n = tt
first-few (Some t) n = omega arith

resumed-few : (facts : Facts) (views : List DeviceView) (o : Option Request) (n : ℕ) → AtMost n (traced facts views o)
resumed-few facts views None n = tt
resumed-few facts views (Some request) n = first-few (target facts views request) n

pushed-few : (o : Option Trace) (step : TraceStep) (n m : ℕ) → n < m → AtMost n o → AtMost m (option_map (with_step step) o)
pushed-few None step n m lt h = tt
pushed-few (Some t) step n m lt h = omega (arith, length_push t.steps step, h)

op-positive : (op : Op) → 0 < op_number op
op-positive Op.Prepare = omega arith
op-positive _ = omega arith

pub op-six : (op : Op) → op_number op ≤ 6
op-six Op.Prepare = omega arith
op-six _ = omega arith

above : (op : Op) (rest : List Stroke) → InOrder (Stroke.Started op ∷ rest) → last_ended rest < op_number op
above op [] i = op-positive op
above op (Stroke.Ended last ∷ rest) i = i.0
above op (Stroke.Started last ∷ rest) i = absurd i

-- A step that ends is above the last one that ended.
ended-above : (s : List Stroke) (op : Op) (rest : List Stroke) → s ≡ Stroke.Started op ∷ rest → InOrder s → last_ended s < op_number op
ended-above s op rest e i =
    let j : InOrder (Stroke.Started op ∷ rest) = rw e at i in
    let a : last_ended rest < op_number op = above op rest j in
    rw e a

end-above : (c : Campaign) (past : List Event) (client entry : ℕ) (op : Op) (outcome : Result (Unit {0}) BoardFault) (told : List Mark) (seen : Seen)
    → StepsKept c.basis past → EndAllowed c.basis c.first past client entry op outcome told seen → last_ended (strokes entry past) < op_number op
end-above c past client entry op outcome told seen k a =
    let st = open-started past entry (record { client = client; entry = entry; op = op }) k.open_are a.open_is in
    ended-above (strokes entry past) op st.0 st.1 (k.order entry)

few-step : (c : Campaign) (past : List Event) (event : Event) → StepsKept c.basis past → Allowed c past event
    → (e : ℕ) → AtMost (last_ended (strokes e past)) (trace c.basis e past)
    → AtMost (last_ended (strokes e (event ∷ past))) (trace c.basis e (event ∷ past))
few-step c past (Event.Claim client request fetched (ClaimAnswer.Entry entry)) k a e h =
    by_test (entry == e) _
    (λ t. rw t (first-few (target c.basis.facts (views c.basis past) request) (last_ended (strokes e past))))
    (λ f. rw f h)
few-step c past (Event.Resume client entry fetched ResumeAnswer.Begun stored) k a e h =
    by_test (entry == e) _
    (λ t. rw t (resumed-few c.basis.facts (views c.basis past) (request_held (holds past) client) (last_ended (strokes e past))))
    (λ f. rw f h)
few-step c past (Event.Start client entry op) k a e h = by_test (entry == e) _ (λ t. rw t h) (λ f. rw f h)
few-step c past (Event.End client entry op outcome told seen) k a e h =
    by_test (entry == e) _
    (λ t. let s : entry ≡ e = eqb-true entry e t in
    let a' : last_ended (strokes entry past) < op_number op = end-above c past client entry op outcome told seen k a in
    let lt : last_ended (strokes e past) < op_number op = rw s at a' in
    rw t (pushed-few (trace c.basis e past) (record { op = op; outcome = outcome; seen = seen }) (last_ended (strokes e past)) (op_number op) lt h))
    (λ f. rw f h)
few-step c past _ k a e h = h

few-steps : (c : Campaign) (past : List Event) → IsHistory c.basis.opening → IsLegalUnlimited c past
    → (e : ℕ) → AtMost (last_ended (strokes e past)) (trace c.basis e past)
few-steps c [] v l e = tt
few-steps c (event ∷ past) v l e =
    let k = past-kept-on c past v l.0 in
    few-step c past event k.steps l.2 e (few-steps c past v l.0 e)

few-end : (o : Option Trace) (n m : ℕ) → n < m → m ≤ 6 → AtMost n o → IfSome o (λ t. length t.steps < 6)
few-end None n m lt le h = tt
few-end (Some t) n m lt le h = omega (arith, h)

-- An entry that ends a step has fewer than six.
pub end-few : (c : Campaign) (past : List Event) (client entry : ℕ) (op : Op) (outcome : Result (Unit {0}) BoardFault) (told : List Mark) (seen : Seen)
    → IsHistory c.basis.opening → IsLegalUnlimited c (Event.End client entry op outcome told seen ∷ past) → IfSome (trace c.basis entry past) (λ t. length t.steps < 6)
end-few c past client entry op outcome told seen v l =
    let k = past-kept-on c past v l.0 in
    few-end (trace c.basis entry past) (last_ended (strokes entry past)) (op_number op)
    (end-above c past client entry op outcome told seen k.steps l.2) (op-six op) (few-steps c past v l.0 entry)
