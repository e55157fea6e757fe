-- What heights and cycles of the table say of the sheets.
use Rattle.std.proofs.Common.{◌≡◌, ℕ, ◌+◌, ◌<◌, ◌≤◌, Bool, List, [], ◌∷◌, ◌++◌, length, reverse, IsTrue, refl, sym, ◌∙◌, subst, arith, length-append}
use Rattle.std.proofs.lemmas.List.{reverse-append, length-reverse}
use Rattle.plugin_order.specs.declared.sheet.PluginSheet.{PluginSheet}
use Rattle.plugin_order.specs.Sheets.{runs_after}
use Rattle.plugin_order.specs.Chains.{Chain, IsLongest, first_or, Leads}
use Rattle.plugin_order.specs.Arranged.{IsPlace, HasNoCycle}
use Rattle.plugin_order.specs.declared.rules.Rules.{Rules}
use Rattle.plugin_order.specs.Table.{holds}
use Rattle.plugin_order.proofs.TableLaws.{holds-from}
use Rattle.plugin_order.proofs.ChainLaws.{flipped, Leads-append, IsCycle-reverse, IsLongest-same, no_cycle}

chain_back : (rule : ℕ → ℕ → Bool) (p : ℕ) (qs : List ℕ) → Chain rule p qs → Leads (flipped rule) (reverse qs) p
chain_back rule p [] h = tt
chain_back rule p (q ∷ qs) h =
    let e : reverse (q ∷ qs) ≡ reverse qs ++ q ∷ [] = reverse-append (q ∷ []) qs in
    subst (λ (zs : List ℕ). Leads (flipped rule) zs p) (sym e)
    (Leads-append (flipped rule) (reverse qs) (q ∷ []) p (chain_back rule q qs h.1) (h.0, tt))

abbrev last_of : ℕ → List ℕ → ℕ
last_of p [] = p
last_of p (q ∷ qs) = last_of q qs

chain_push : (rule : ℕ → ℕ → Bool) (p : ℕ) (qs : List ℕ) (x : ℕ) → Chain rule p qs → IsTrue (rule (last_of p qs) x) → Chain rule p (qs ++ x ∷ [])
chain_push rule p [] x h r = (r, tt)
chain_push rule p (q ∷ qs) x h r = (h.0, chain_push rule q qs x h.1 r)

last_push : (p : ℕ) (qs : List ℕ) (x : ℕ) → last_of p (qs ++ x ∷ []) ≡ x
last_push p [] x = refl
last_push p (q ∷ qs) x = last_push q qs x

-- what leads to p, read from its end
back_chain : (rule : ℕ → ℕ → Bool) (ps : List ℕ) (p : ℕ) → Leads (flipped rule) ps p
    → (qs : List ℕ) × Chain rule p qs × (last_of p qs ≡ first_or ps p) × (length qs ≡ length ps)
back_chain rule [] p h = ([], tt, refl, refl)
back_chain rule (x ∷ xs) p h =
    let rest : (qs : List ℕ) × Chain rule p qs × (last_of p qs ≡ first_or xs p) × (length qs ≡ length xs) = back_chain rule xs p h.1 in
    let step : IsTrue (rule (last_of p rest.0) x) = subst (λ (y : ℕ). IsTrue (rule y x)) (sym rest.2) h.0 in
    let len : length (rest.0 ++ x ∷ []) ≡ length rest.0 + 1 = length-append rest.0 (x ∷ []) in
    let e : length rest.0 ≡ length xs = rest.3 in
    (rest.0 ++ x ∷ [], chain_push rule p rest.0 x rest.1 step, last_push p rest.0 x, omega arith)

-- the longest chain of what runs before is a place
pub place_of : (sheets : List PluginSheet) (p k : ℕ) → IsLongest (runs_after sheets) p k → IsPlace sheets p k
place_of sheets p k l = record {
  shown = (reverse l.shown.0, chain_back (runs_after sheets) p l.shown.0 l.shown.1, length-reverse l.shown.0 ∙ l.shown.2);
  most = λ ps h.
      let b : (qs : List ℕ) × Chain (runs_after sheets) p qs × (last_of p qs ≡ first_or ps p) × (length qs ≡ length ps) = back_chain (runs_after sheets) ps p h in
      let m : length b.0 ≤ k = l.most b.0 b.1 in
      let e : length b.0 ≡ length ps = b.3 in
      omega arith;
}

-- where each plugin that a rule leads on from has a longest chain, there is no cycle
pub none_is_cycle : (rule : ℕ → ℕ → Bool) (n : ℕ) → ((p q : ℕ) → IsTrue (rule p q) → p < n)
    → ((p : ℕ) → p < n → (k : ℕ) × IsLongest rule p k) → HasNoCycle rule
none_is_cycle rule n within all [] h = h
none_is_cycle rule n within all (x ∷ xs) h =
    let l : (k : ℕ) × IsLongest rule x k = all x (within x (first_or xs x) h.0) in
    no_cycle rule x xs l.0 l.1 h

pub no_cycle-flipped : (rule : ℕ → ℕ → Bool) → HasNoCycle rule → HasNoCycle (flipped rule)
no_cycle-flipped rule none c h = none (reverse c) (IsCycle-reverse (flipped rule) c h)

-- a rule that the table has leads on from one of its plugins
pub within_same : (rules : Rules) (rule : ℕ → ℕ → Bool) (n : ℕ) → ((p q : ℕ) → holds rules p q ≡ rule p q) → rules.count ≡ n
    → (p q : ℕ) → IsTrue (rule p q) → p < n
within_same rules rule n same e p q h = let w : p < rules.count = holds-from rules p q (same p q ∙ h) in omega arith

pub no_cycle_of : (rules : Rules) (rule : ℕ → ℕ → Bool) (n : ℕ) → ((p q : ℕ) → holds rules p q ≡ rule p q) → rules.count ≡ n
    → ((p : ℕ) → p < rules.count → (k : ℕ) × IsLongest (holds rules) p k) → HasNoCycle rule
no_cycle_of rules rule n same e all = none_is_cycle rule n (within_same rules rule n same e)
    (λ p lt. let l : (k : ℕ) × IsLongest (holds rules) p k = all p (omega arith) in (l.0, IsLongest-same (holds rules) rule same p l.0 l.1))
