-- Chains and cycles of a rule between plugins. A plugin is the place of its sheet in the list.
use Rattle.std.specs.Prelude.{◌≡◌, ℕ, ◌≤◌, ◌==◌, Bool, List, [], ◌∷◌, length, count_by, IsTrue}

-- from p on, each next plugin of the list is reached by the rule
abbrev pub Chain : (ℕ → ℕ → Bool) → ℕ → List ℕ → Type 0
Chain rule p [] = Unit {0}
Chain rule p (q ∷ qs) = IsTrue (rule p q) × Chain rule q qs

-- a chain of k rules starts at p, and none of more
pub record IsLongest (rule : ℕ → ℕ → Bool) (p k : ℕ) : Type 0 where
  pub shown : (qs : List ℕ) × Chain rule p qs × (length qs ≡ k)
  pub most : (qs : List ℕ) → Chain rule p qs → length qs ≤ k

-- the first plugin of a list, or r behind an empty one
abbrev pub first_or : List ℕ → ℕ → ℕ
first_or [] r = r
first_or (p ∷ ps) r = p

-- each plugin of the list leads to the next by the rule, and the last one to r
abbrev pub Leads : (ℕ → ℕ → Bool) → List ℕ → ℕ → Type 0
Leads rule [] r = Unit {0}
Leads rule (p ∷ ps) r = IsTrue (rule p (first_or ps r)) × Leads rule ps r

-- a list that is not empty, and whose last plugin leads to the first
abbrev pub IsCycle : (ℕ → ℕ → Bool) → List ℕ → Type 0
IsCycle rule [] = ⊥
IsCycle rule (p ∷ ps) = Leads rule (p ∷ ps) p

-- no plugin stands in the list twice
abbrev pub IsApart : List ℕ → Type 0
IsApart ps = (p : ℕ) → count_by (λ q. q == p) ps ≤ 1
