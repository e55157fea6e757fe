-- What one event makes of the traces of the live entries, over what is kept.
use Rattle.std.proofs.Common.{◌≡◌, ℕ, true, false, List, [], ◌∷◌, ◌++◌, map, refl, ap, sym, ◌∙◌}
use Rattle.std.specs.Prelude.{Option, Some, ◌==◌, if◌then◌else◌, option_map}
use Rattle.std.specs.List.{AllByRecursion}
use Rattle.std.proofs.lemmas.Bool.{eqb-true}
use Rattle.std.proofs.lemmas.List.{map-append}
use Rattle.update_log.proofs.Lists.{by_test, eqb-self, turned}
use Rattle.core_state.specs.Core.{trace_kept}
use Rattle.core_state.specs.CoreSteps.{stepped, taken_with, without_trace}
use Rattle.update_log.specs.Holding.{without_entry}
use Rattle.update_log.specs.Steps.{with_step}
use Rattle.update_log.specs.declared.live.LiveEntry.{LiveEntry}
use Rattle.update_log.specs.declared.trace.Trace.{Trace}
use Rattle.update_log.specs.declared.trace.Traced.{Traced}
use Rattle.update_log.specs.declared.trace.TraceStep.{TraceStep}

-- The entry with what the log says of it.
abbrev pub said : (ℕ → Option Trace) → LiveEntry → ℕ × Option Trace
said f l = (l.entry, f l.entry)

-- The traces kept are those of the live entries.
abbrev pub Tied : (ℕ → Option Trace) → List Traced → List LiveEntry → Type 0
Tied f traces entries = map trace_kept traces ≡ map (said f) entries

-- Their numbers are the same.
pub entries-tied : (f : ℕ → Option Trace) (traces : List Traced) (entries : List LiveEntry) → Tied f traces entries → map (λ t. t.entry) traces ≡ map (λ l. l.entry) entries
entries-tied f [] [] h = refl
entries-tied f [] (l ∷ entries) h = cc
entries-tied f (t ∷ traces) [] h = cc
entries-tied f (t ∷ traces) (l ∷ entries) h =
    let head : trace_kept t ≡ said f l = cc in
    let tail : map trace_kept traces ≡ map (said f) entries = cc in
    let number : t.entry ≡ l.entry = ap (λ (p : ℕ × Option Trace). p.0) head in
    rw number (ap (λ (ns : List ℕ). l.entry ∷ ns) (entries-tied f traces entries tail))

-- Each trace kept is the one that the log says.
pub each-tied : (f : ℕ → Option Trace) (traces : List Traced) (entries : List LiveEntry) → Tied f traces entries → AllByRecursion (λ t. f t.entry ≡ Some t.trace) traces
each-tied f [] entries h = tt
each-tied f (t ∷ traces) [] h = cc
each-tied f (t ∷ traces) (l ∷ entries) h =
    let head : trace_kept t ≡ said f l = cc in
    let tail : map trace_kept traces ≡ map (said f) entries = cc in
    let number : t.entry ≡ l.entry = ap (λ (p : ℕ × Option Trace). p.0) head in
    let is : Some t.trace ≡ f l.entry = ap (λ (p : ℕ × Option Trace). p.1) head in
    (ap f number ∙ sym is, each-tied f traces entries tail)

-- What is said of entries, of which the same is said by another.
said-same : (f g : ℕ → Option Trace) (entries : List LiveEntry) → AllByRecursion (λ l. g l.entry ≡ f l.entry) entries → map (said f) entries ≡ map (said g) entries
said-same f g [] h = refl
said-same f g (l ∷ entries) h =
    let tail = said-same f g entries h.1 in
    let head : g l.entry ≡ f l.entry = h.0 in
    ap (λ (o : Option Trace). let p : ℕ × Option Trace = (l.entry, o) in p ∷ map (said f) entries) (sym head)
    ∙ ap (λ (ps : List (ℕ × Option Trace)). said g l ∷ ps) tail

-- An entry is taken.
pub tied-taken : (f g : ℕ → Option Trace) (traces : List Traced) (entries : List LiveEntry) (l : LiveEntry) (o : Option Trace) (t : Trace)
    → Tied f traces entries → AllByRecursion (λ m. g m.entry ≡ f m.entry) entries → o ≡ Some t → g l.entry ≡ o
    → Tied g (traces ++ taken_with l.entry o) (entries ++ l ∷ [])
tied-taken f g traces entries l o t h same e is =
    let one : map trace_kept (taken_with l.entry o) ≡ said g l ∷ [] = rw (is, e) refl in
    map-append trace_kept traces (taken_with l.entry o)
    ∙ ap (λ (ps : List (ℕ × Option Trace)). ps ++ map trace_kept (taken_with l.entry o)) (h ∙ said-same f g entries same)
    ∙ ap (λ (ps : List (ℕ × Option Trace)). map (said g) entries ++ ps) one
    ∙ sym (map-append (said g) entries (l ∷ []))

-- An entry ends a step.
abbrev pub with_end : ℕ → TraceStep → (ℕ → Option Trace) → ℕ → Option Trace
with_end entry step f e = if entry == e then option_map (with_step step) (f e) else f e

one-stepped : (entry : ℕ) (step : TraceStep) (f : ℕ → Option Trace) (t : Traced) (l : LiveEntry) → trace_kept t ≡ said f l → trace_kept (stepped entry step t) ≡ said (with_end entry step f) l
one-stepped entry step f t l h =
    let number : t.entry ≡ l.entry = ap (λ (p : ℕ × Option Trace). p.0) h in
    let is : Some t.trace ≡ f l.entry = ap (λ (p : ℕ × Option Trace). p.1) h in
    by_test (t.entry == entry) _
    (λ b. let e : t.entry ≡ entry = eqb-true t.entry entry b in
    let c : (entry == l.entry) ≡ true = ap (λ (n : ℕ). entry == n) (sym number ∙ e) ∙ eqb-self entry in
    rw (b, c, number, ← is) refl)
    (λ b. let c : (entry == l.entry) ≡ false = ap (λ (n : ℕ). entry == n) (sym number) ∙ turned t.entry entry b in
    rw (b, c) h)

pub tied-stepped : (entry : ℕ) (step : TraceStep) (f : ℕ → Option Trace) (traces : List Traced) (entries : List LiveEntry) → Tied f traces entries → Tied (with_end entry step f) (map (stepped entry step) traces) entries
tied-stepped entry step f [] [] h = refl
tied-stepped entry step f [] (l ∷ entries) h = cc
tied-stepped entry step f (t ∷ traces) [] h = cc
tied-stepped entry step f (t ∷ traces) (l ∷ entries) h =
    let head : trace_kept t ≡ said f l = cc in
    let tail : map trace_kept traces ≡ map (said f) entries = cc in
    ap (λ (p : ℕ × Option Trace). p ∷ map trace_kept (map (stepped entry step) traces)) (one-stepped entry step f t l head)
    ∙ ap (λ (ps : List (ℕ × Option Trace)). said (with_end entry step f) l ∷ ps) (tied-stepped entry step f traces entries tail)

-- An entry is done.
pub tied-left : (entry : ℕ) (f : ℕ → Option Trace) (traces : List Traced) (entries : List LiveEntry) → Tied f traces entries → Tied f (without_trace entry traces) (without_entry entry entries)
tied-left entry f [] [] h = refl
tied-left entry f [] (l ∷ entries) h = cc
tied-left entry f (t ∷ traces) [] h = cc
tied-left entry f (t ∷ traces) (l ∷ entries) h =
    let head : trace_kept t ≡ said f l = cc in
    let tail : map trace_kept traces ≡ map (said f) entries = cc in
    let number : t.entry ≡ l.entry = ap (λ (p : ℕ × Option Trace). p.0) head in
    let rest : Tied f (without_trace entry traces) (without_entry entry entries) = tied-left entry f traces entries tail in
    by_test (t.entry == entry) _
    (λ b. let c : (l.entry == entry) ≡ true = ap (λ (n : ℕ). n == entry) (sym number) ∙ b in rw (b, c) rest)
    (λ b. let c : (l.entry == entry) ≡ false = ap (λ (n : ℕ). n == entry) (sym number) ∙ b in
    rw (b, c) (ap (λ (p : ℕ × Option Trace). p ∷ map trace_kept (without_trace entry traces)) head
    ∙ ap (λ (ps : List (ℕ × Option Trace)). said f l ∷ ps) rest))
