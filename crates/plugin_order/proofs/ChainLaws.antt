-- Laws of chains and cycles.
use Rattle.std.proofs.Common.{◌≡◌, ℕ, ◌+◌, ◌<◌, ◌≤◌, Bool, ◌⊎◌, inl, inr, List, [], ◌∷◌, ◌++◌, length, reverse, IsTrue, refl, sym, ◌∙◌, subst, arith}
use Rattle.std.proofs.lemmas.List.{append-nil, reverse-append}
use Rattle.plugin_order.specs.Chains.{Chain, IsLongest, first_or, Leads, IsCycle}

-- what a plugin's height is, by the heights of those that its rules lead to
pub record StandsOn (rule : ℕ → ℕ → Bool) (p k : ℕ) : Type 0 where
  pub above : (q : ℕ) → IsTrue (rule p q) → (g : ℕ) × IsLongest rule q g × (g < k)
  pub reached : (k ≡ 0) ⊎ ((q : ℕ) × (g : ℕ) × IsTrue (rule p q) × IsLongest rule q g × (k ≡ g + 1))

most_of : (rule : ℕ → ℕ → Bool) (p k : ℕ) → ((q : ℕ) → IsTrue (rule p q) → (g : ℕ) × IsLongest rule q g × (g < k))
    → (qs : List ℕ) → Chain rule p qs → length qs ≤ k
most_of rule p k above [] ch = omega arith
most_of rule p k above (q ∷ qs) ch =
    let a : (g : ℕ) × IsLongest rule q g × (g < k) = above q ch.0 in
    let m : length qs ≤ a.0 = a.1.most qs ch.1 in
    let l : a.0 < k = a.2 in
    omega arith

pub longest_step : (rule : ℕ → ℕ → Bool) (p k : ℕ) → StandsOn rule p k → IsLongest rule p k
longest_step rule p k s = record {
  shown = elim s.reached [
    | inl z ↦ ([], tt, sym z)
    | inr w ↦ (let e : length w.3.shown.0 ≡ w.1 = w.3.shown.2 in (w.0 ∷ w.3.shown.0, (w.2, w.3.shown.1), omega arith))
  ];
  most = most_of rule p k s.above;
}

-- a list that leads to r goes on with a chain from r
long_chain : (rule : ℕ → ℕ → Bool) (xs : List ℕ) (r : ℕ) (qs : List ℕ) → Leads rule xs r → Chain rule r qs
    → (zs : List ℕ) × Chain rule (first_or xs r) zs × (length zs ≡ length xs + length qs)
long_chain rule [] r qs h ch = (qs, ch, omega arith)
long_chain rule (x ∷ xs) r qs h ch =
    let rest : (zs : List ℕ) × Chain rule (first_or xs r) zs × (length zs ≡ length xs + length qs) = long_chain rule xs r qs h.1 ch in
    let e : length rest.0 ≡ length xs + length qs = rest.2 in
    (first_or xs r ∷ rest.0, (h.0, rest.1), omega arith)

-- no cycle goes through a plugin that has a longest chain
pub no_cycle : (rule : ℕ → ℕ → Bool) (p : ℕ) (ps : List ℕ) (k : ℕ) → IsLongest rule p k → IsCycle rule (p ∷ ps) → ⊥
no_cycle rule p ps k l c =
    let z : (zs : List ℕ) × Chain rule p zs × (length zs ≡ length (p ∷ ps) + length l.shown.0) =
    long_chain rule (p ∷ ps) p l.shown.0 c l.shown.1 in
    let e : length z.0 ≡ length (p ∷ ps) + length l.shown.0 = z.2 in
    let f : length l.shown.0 ≡ k = l.shown.2 in
    let m : length z.0 ≤ k = l.most z.0 z.1 in
    omega arith

first_or-append : (xs ys : List ℕ) (r : ℕ) → first_or (xs ++ ys) r ≡ first_or xs (first_or ys r)
first_or-append [] ys r = refl
first_or-append (x ∷ xs) ys r = refl

pub Leads-append : (rule : ℕ → ℕ → Bool) (xs ys : List ℕ) (r : ℕ) → Leads rule xs (first_or ys r) → Leads rule ys r → Leads rule (xs ++ ys) r
Leads-append rule [] ys r a b = b
Leads-append rule (x ∷ xs) ys r a b =
    (let P : ℕ → Type 0 = λ q. IsTrue (rule x q) in subst P (sym (first_or-append xs ys r)) a.0, Leads-append rule xs ys r a.1 b)

pub Leads-back : (rule : ℕ → ℕ → Bool) (xs ys : List ℕ) (r : ℕ) → Leads rule (xs ++ ys) r → Leads rule ys r
Leads-back rule [] ys r h = h
Leads-back rule (x ∷ xs) ys r h = Leads-back rule xs ys r h.1

pub Leads-front : (rule : ℕ → ℕ → Bool) (xs ys : List ℕ) (r : ℕ) → Leads rule (xs ++ ys) r → Leads rule xs (first_or ys r)
Leads-front rule [] ys r h = tt
Leads-front rule (x ∷ xs) ys r h =
    (let P : ℕ → Type 0 = λ q. IsTrue (rule x q) in subst P (first_or-append xs ys r) h.0, Leads-front rule xs ys r h.1)

-- one more step at the end
pub Leads-push : (rule : ℕ → ℕ → Bool) (xs : List ℕ) (at next : ℕ) → Leads rule xs at → IsTrue (rule at next) → Leads rule (xs ++ at ∷ []) next
Leads-push rule xs at next h r = Leads-append rule xs (at ∷ []) next h (r, tt)

-- a cycle may begin at any of its plugins
pub IsCycle-turned : (rule : ℕ → ℕ → Bool) (xs ys : List ℕ) → IsCycle rule (xs ++ ys) → IsCycle rule (ys ++ xs)
IsCycle-turned rule [] [] h = h
IsCycle-turned rule [] (y ∷ ys) h = let e : (y ∷ ys) ++ [] ≡ y ∷ ys = append-nil (y ∷ ys) in subst (IsCycle rule) (sym e) h
IsCycle-turned rule (x ∷ xs) [] h = let e : (x ∷ xs) ++ [] ≡ x ∷ xs = append-nil (x ∷ xs) in subst (IsCycle rule) e h
IsCycle-turned rule (x ∷ xs) (y ∷ ys) h =
    Leads-append rule (y ∷ ys) (x ∷ xs) y (Leads-back rule (x ∷ xs) (y ∷ ys) x h) (Leads-front rule (x ∷ xs) (y ∷ ys) x h)

abbrev pub flipped : (ℕ → ℕ → Bool) → ℕ → ℕ → Bool
flipped rule p q = rule q p

turned_back : (rule : ℕ → ℕ → Bool) (x : ℕ) (xs : List ℕ) (r : ℕ) → Leads rule (x ∷ xs) r → Leads (flipped rule) (r ∷ reverse xs) x
turned_back rule x [] r h = (h.0, tt)
turned_back rule x (y ∷ ys) r h =
    let e : reverse (y ∷ ys) ≡ reverse ys ++ y ∷ [] = reverse-append (y ∷ []) ys in
    let all : Leads (flipped rule) ((r ∷ reverse ys) ++ y ∷ []) x =
    Leads-append (flipped rule) (r ∷ reverse ys) (y ∷ []) x (turned_back rule y ys r h.1) (h.0, tt) in
    let P : List ℕ → Type 0 = λ zs. Leads (flipped rule) (r ∷ zs) x in
    subst P (sym e) all

-- read from its end, a cycle is one of the rule the other way round
pub IsCycle-reverse : (rule : ℕ → ℕ → Bool) (cs : List ℕ) → IsCycle rule cs → IsCycle (flipped rule) (reverse cs)
IsCycle-reverse rule [] h = absurd h
IsCycle-reverse rule (x ∷ xs) h =
    let e : reverse (x ∷ xs) ≡ reverse xs ++ x ∷ [] = reverse-append (x ∷ []) xs in
    let P : List ℕ → Type 0 = λ zs. IsCycle (flipped rule) zs in
    subst P (sym e) (IsCycle-turned (flipped rule) (x ∷ []) (reverse xs) (turned_back rule x xs x h))

pub Leads-same : (rule other : ℕ → ℕ → Bool) → ((p q : ℕ) → rule p q ≡ other p q) → (xs : List ℕ) (r : ℕ) → Leads rule xs r → Leads other xs r
Leads-same rule other same [] r h = tt
Leads-same rule other same (x ∷ xs) r h = (sym (same x (first_or xs r)) ∙ h.0, Leads-same rule other same xs r h.1)

-- rules that say the same have the same cycles
pub IsCycle-same : (rule other : ℕ → ℕ → Bool) → ((p q : ℕ) → rule p q ≡ other p q) → (cs : List ℕ) → IsCycle rule cs → IsCycle other cs
IsCycle-same rule other same [] h = h
IsCycle-same rule other same (x ∷ xs) h = Leads-same rule other same (x ∷ xs) x h

pub Chain-same : (rule other : ℕ → ℕ → Bool) → ((p q : ℕ) → rule p q ≡ other p q) → (p : ℕ) (qs : List ℕ) → Chain rule p qs → Chain other p qs
Chain-same rule other same p [] h = tt
Chain-same rule other same p (q ∷ qs) h = (sym (same p q) ∙ h.0, Chain-same rule other same q qs h.1)

-- and the same longest chains
pub IsLongest-same : (rule other : ℕ → ℕ → Bool) → ((p q : ℕ) → rule p q ≡ other p q) → (p k : ℕ) → IsLongest rule p k → IsLongest other p k
IsLongest-same rule other same p k l = record {
  shown = (l.shown.0, Chain-same rule other same p l.shown.0 l.shown.1, l.shown.2);
  most = λ qs ch. l.most qs (Chain-same other rule (λ p q. sym (same p q)) p qs ch);
}
