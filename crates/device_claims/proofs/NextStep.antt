-- Which step may come next, behind each.
use Rattle.std.proofs.Common.{◌≡◌, ℕ, ◌+◌, ◌-◌, ◌≤◌, ◌<◌, Bool, true, false, ◌&&◌, nat_lt, List, [], ◌∷◌, ◌++◌, length, Option, Some, None, refl, sym, ap, ◌∙◌, subst, length-append, lit≤, arith}
use Rattle.std.specs.Prelude.{find, slice_get, option_map, unwrap_or}
use Rattle.std.proofs.Math.Seq.{get_or-append_seam}
use Rattle.std.proofs.lemmas.Option.{slice_get-get_or}
use Rattle.emulated_boards.specs.declared.condition.Condition.{Condition}
use Rattle.emulated_boards.specs.declared.condition.Presence.{Presence}
use Rattle.emulated_boards.specs.declared.condition.Presence.TheVariants as presence
use Rattle.emulated_boards.specs.Conditions.{view_of}
use Rattle.fw_facts.specs.declared.seen.Seen.{Seen}
use Rattle.update_log.specs.declared.event.Op.{Op}
use Rattle.update_log.specs.declared.event.Op.TheVariants as ops
use Rattle.update_log.specs.declared.trace.Trace.{Trace}
use Rattle.update_log.specs.declared.trace.TraceStep.{TraceStep}
use Rattle.update_log.specs.Steps.{all_ops, op_number, last_step, last_number, last_seen, fits, is_wanted, may_be_next, next_step, with_step}
use Rattle.device_claims.specs.States.{IsNext, number_or_end}

-- ---- the last step

last_step-push : (steps : List TraceStep) (step : TraceStep) → last_step (steps ++ step ∷ []) ≡ Some step
last_step-push steps step =
    let count : length (steps ++ step ∷ []) ≡ length steps + 1 = length-append steps (step ∷ []) in
    let at : length (steps ++ step ∷ []) - 1 ≡ length steps = omega arith in
    ap (slice_get (steps ++ step ∷ [])) at
    ∙ slice_get-get_or (steps ++ step ∷ []) (length steps) step (omega arith)
    ∙ ap Some (get_or-append_seam steps step [] step)

pub last_number-push : (steps : List TraceStep) (step : TraceStep) → last_number (steps ++ step ∷ []) ≡ op_number step.op
last_number-push steps step = ap (λ o. unwrap_or (option_map (λ (s : TraceStep). op_number s.op) o) 0) (last_step-push steps step)

pub last_seen-push : (steps : List TraceStep) (step : TraceStep) → last_seen (steps ++ step ∷ []) ≡ step.seen
last_seen-push steps step = ap (λ o. unwrap_or (option_map (λ (s : TraceStep). s.seen) o) Seen.Gone) (last_step-push steps step)

-- ---- the next one

-- The first step whose number is above the last one's and which is wanted, by three tests.
abbrev wanted_by : Bool → Bool → Bool → Op → Bool
wanted_by detach write attach ops.Detach = detach
wanted_by detach write attach ops.Write = write
wanted_by detach write attach ops.Attach = attach
wanted_by detach write attach _ = true

abbrev next_number : ℕ → Bool → Bool → Bool → ℕ
next_number last detach write attach = number_or_end (find (λ op. nat_lt last (op_number op) && wanted_by detach write attach op) all_ops)

-- The earliest and the latest number of a step behind each.
abbrev pub earliest_behind : Op → ℕ
earliest_behind ops.Prepare = 2
earliest_behind ops.Detach = 3
earliest_behind ops.Write = 4
earliest_behind ops.Attach = 5
earliest_behind ops.Reload = 6
earliest_behind ops.Cleanup = 7

abbrev pub latest_behind : Op → ℕ
latest_behind ops.Reload = 6
latest_behind ops.Cleanup = 7
latest_behind _ = 5

abbrev Between : ℕ → ℕ → ℕ → Type 0
Between low high n = (low ≤ n) × (n ≤ high)

behind : (op : Op) (detach write attach : Bool) → Between (earliest_behind op) (latest_behind op) (next_number (op_number op) detach write attach)
behind ops.Prepare true write attach = (lit≤ tt, lit≤ tt)
behind ops.Prepare false true attach = (lit≤ tt, lit≤ tt)
behind ops.Prepare false false true = (lit≤ tt, lit≤ tt)
behind ops.Prepare false false false = (lit≤ tt, lit≤ tt)
behind ops.Detach detach true attach = (lit≤ tt, lit≤ tt)
behind ops.Detach detach false true = (lit≤ tt, lit≤ tt)
behind ops.Detach detach false false = (lit≤ tt, lit≤ tt)
behind ops.Write detach write true = (lit≤ tt, lit≤ tt)
behind ops.Write detach write false = (lit≤ tt, lit≤ tt)
behind ops.Attach detach write attach = (lit≤ tt, lit≤ tt)
behind ops.Reload detach write attach = (lit≤ tt, lit≤ tt)
behind ops.Cleanup detach write attach = (lit≤ tt, lit≤ tt)

-- Behind a step, the next one lies in its bounds.
pub next-behind : (step : TraceStep) (t : Trace) → Between (earliest_behind step.op) (latest_behind step.op) (number_or_end (next_step (with_step step t)))
next-behind step t =
    let after : Trace = with_step step t in
    let P : ℕ → Type 0 = λ last. Between (earliest_behind step.op) (latest_behind step.op) (next_number last (is_wanted after ops.Detach) (is_wanted after ops.Write) (is_wanted after ops.Attach)) in
    subst P (sym (last_number-push t.steps step)) (behind step.op (is_wanted after ops.Detach) (is_wanted after ops.Write) (is_wanted after ops.Attach))

pub reload-of : (next : Option Op) → number_or_end next ≡ 5 → next ≡ Some ops.Reload
reload-of (Some ops.Reload) e = refl
reload-of _ e = absurd (omega arith)

pub cleanup-of : (next : Option Op) → number_or_end next ≡ 6 → next ≡ Some ops.Cleanup
cleanup-of (Some ops.Cleanup) e = refl
cleanup-of _ e = absurd (omega arith)

pub end-of : (next : Option Op) → number_or_end next ≡ 7 → next ≡ None
end-of None e = refl
end-of (Some ops.Prepare) e = absurd (omega arith)
end-of _ e = absurd (omega arith)

-- ---- a write is wanted only where the board is at home

and-right : (a b : Bool) → (a && b) ≡ true → b ≡ true
and-right true b e = e
and-right false b e = cc

test-passed : (prepare detach write attach reload cleanup : Bool) → number_or_end (find (λ op. elim op [ ops.Prepare ↦ prepare | ops.Detach ↦ detach | ops.Write ↦ write | ops.Attach ↦ attach | ops.Reload ↦ reload | ops.Cleanup ↦ cleanup ]) all_ops) ≡ 3 → write ≡ true
test-passed true detach write attach reload cleanup e = absurd (omega arith)
test-passed false true write attach reload cleanup e = absurd (omega arith)
test-passed false false true attach reload cleanup e = refl
test-passed false false false true reload cleanup e = absurd (omega arith)
test-passed false false false false true cleanup e = absurd (omega arith)
test-passed false false false false false true e = absurd (omega arith)
test-passed false false false false false false e = absurd (omega arith)

home-fits : (t : Trace) (it : Condition) (there : Presence) → it.presence ≡ there → fits t (view_of (record it { presence = there })) ≡ true → it.presence ≡ presence.Home
home-fits t it presence.Home e f = e
home-fits t it presence.Gone e f = cc
home-fits t it presence.Stranger e f = cc

seen-fits : (t : Trace) (steps : List TraceStep) (it : Condition) → (0 < length steps → last_seen steps ≡ view_of it) → fits t (last_seen steps) ≡ true → it.presence ≡ presence.Home
seen-fits t [] it shown f = cc
seen-fits t (step ∷ steps) it shown f =
    home-fits t it it.presence refl (ap (fits t) (sym (shown (omega arith))) ∙ f)

pub home-at-write : (t : Trace) (it : Condition) → (0 < length t.steps → last_seen t.steps ≡ view_of it) → IsNext ops.Write t → it.presence ≡ presence.Home
home-at-write t it shown next =
    let passed : may_be_next t ops.Write ≡ true =
    test-passed (may_be_next t ops.Prepare) (may_be_next t ops.Detach) (may_be_next t ops.Write) (may_be_next t ops.Attach) (may_be_next t ops.Reload) (may_be_next t ops.Cleanup) (ap number_or_end next) in
    seen-fits t t.steps it shown (and-right _ _ (and-right _ _ passed))
