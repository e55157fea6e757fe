-- What follows where a state stands for its log.
use Rattle.std.proofs.Common.{◌≡◌, ℕ, List, [], ◌∷◌, map, refl, ap, sym, ◌∙◌}
use Rattle.std.specs.Prelude.{Option, Some, None, IsSome, IfSome, false, ◌==◌, find}
use Rattle.std.proofs.lemmas.Bool.{eqb-true}
use Rattle.fw_facts.specs.declared.view.DeviceView.{DeviceView}
use Rattle.history_keeper.specs.declared.row.Row.{Row}
use Rattle.core_state.specs.Core.{Core, Stands, trace_kept}
use Rattle.request_verdicts.specs.Cases.{case_with}
use Rattle.update_log.specs.Holding.{holds, live}
use Rattle.update_log.specs.Known.{Basis, views}
use Rattle.update_log.specs.Pasts.{past_of}
use Rattle.update_log.specs.Verdicts.{decided, verdict}
use Rattle.update_log.specs.declared.decision.Stage.{Stage}
use Rattle.update_log.specs.declared.live.LiveEntry.{LiveEntry}
use Rattle.update_log.specs.declared.request.Request.{Request}
use Rattle.update_log.specs.declared.trace.Trace.{Trace}
use Rattle.update_log.specs.Steps.{trace}
use Rattle.update_log.specs.declared.trace.Traced.{Traced}
use Rattle.update_log.proofs.Lists.{by_test}

-- A decision over what is kept is the verdict over the log.
pub stands-verdict : (basis : Basis) (core : Core) (client : ℕ) (request : Request) (stage : Stage) → Stands basis core
    → decided (case_with basis.facts core.views core.rows (live (past_of core.log)) (holds (past_of core.log)) client request stage)
    ≡ verdict basis (past_of core.log) client request stage
stands-verdict basis core client request stage s =
    ap (λ (vs : List DeviceView). decided (case_with basis.facts vs core.rows (live (past_of core.log)) (holds (past_of core.log)) client request stage)) s.views
    ∙ ap (λ (rs : List Row). decided (case_with basis.facts (views basis (past_of core.log)) rs (live (past_of core.log)) (holds (past_of core.log)) client request stage)) s.rows

-- The trace kept of an entry is the one that the log says.
pub trace-found : (f : ℕ → Option Trace) (traces : List Traced) (entries : List LiveEntry) (entry : ℕ) (t : Traced)
    → map trace_kept traces ≡ map (λ (l : LiveEntry). let p : ℕ × Option Trace = (l.entry, f l.entry) in p) entries
    → find (λ t. t.entry == entry) traces ≡ Some t → f entry ≡ Some t.trace
trace-found f [] entries entry t h g = cc
trace-found f (u ∷ traces) [] entry t h g = cc
trace-found f (u ∷ traces) (l ∷ entries) entry t h g =
    let head : trace_kept u ≡ (l.entry, f l.entry) = cc in
    let tail : map trace_kept traces ≡ map (λ (l : LiveEntry). let p : ℕ × Option Trace = (l.entry, f l.entry) in p) entries = cc in
    let number : u.entry ≡ l.entry = ap (λ (p : ℕ × Option Trace). p.0) head in
    let is : Some u.trace ≡ f l.entry = ap (λ (p : ℕ × Option Trace). p.1) head in
    by_test (u.entry == entry) _
    (λ b. let same : u.entry ≡ entry = eqb-true u.entry entry b in
    let e : Some u ≡ Some t = rw b at g in
    let found : u ≡ t = cc in
    ap f (sym same ∙ number) ∙ sym is ∙ ap (λ (x : Traced). Some x.trace) found)
    (λ b. trace-found f traces entries entry t tail (rw b at g))

-- Each live entry has one.
pub trace-there : (traces : List Traced) (entries : List LiveEntry) (entry : ℕ) → map (λ t. t.entry) traces ≡ map (λ l. l.entry) entries
    → IsSome (find (λ l. l.entry == entry) entries) → IsSome (find (λ t. t.entry == entry) traces)
trace-there [] [] entry h s = s
trace-there [] (l ∷ entries) entry h s = cc
trace-there (u ∷ traces) [] entry h s = cc
trace-there (u ∷ traces) (l ∷ entries) entry h s =
    let number : u.entry ≡ l.entry = cc in
    let tail : map (λ (t : Traced). t.entry) traces ≡ map (λ (l : LiveEntry). l.entry) entries = cc in
    by_test (u.entry == entry) _
    (λ b. rw b refl)
    (λ b. let o : (l.entry == entry) ≡ false = ap (λ n. n == entry) (sym number) ∙ b in rw b (trace-there traces entries entry tail (rw o at s)))

-- So a trace kept is the trace, wherever the state stands.
pub stands-trace : (basis : Basis) (core : Core) (entry : ℕ) (t : Traced) → Stands basis core
    → find (λ t. t.entry == entry) core.traces ≡ Some t → trace basis entry (past_of core.log) ≡ Some t.trace
stands-trace basis core entry t s h =
    trace-found (λ e. trace basis e (past_of core.log)) core.traces (live (past_of core.log)) entry t s.traces h

pub stands-result : (basis : Basis) (core : Core) (entry : ℕ) (r : Trace) → Stands basis core
    → IsSome (find (λ t. t.entry == entry) core.traces) → IfSome (find (λ t. t.entry == entry) core.traces) (λ t. r ≡ t.trace)
    → trace basis entry (past_of core.log) ≡ Some r
stands-result basis core entry r s there is = by (find (λ t. t.entry == entry) core.traces) refl there is
  where
    by : (o : Option Traced) → find (λ t. t.entry == entry) core.traces ≡ o → IsSome o → IfSome o (λ t. r ≡ t.trace) → trace basis entry (past_of core.log) ≡ Some r
    by None e g h = cc
    by (Some t) e g h = stands-trace basis core entry t s e ∙ ap (λ (x : Trace). Some x) (sym h)
