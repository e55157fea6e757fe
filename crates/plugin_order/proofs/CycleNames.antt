-- The names of a cycle, from the least on.
use Rattle.std.proofs.Common.{◌≡◌, ℕ, zero, suc, ◌<◌, Bool, false, List, [], ◌∷◌, ◌++◌, length, map, take, drop, get_or, slice_index, slice_index_or, All, IsTrue, refl, sym, ap, ◌∙◌, subst, arith}
use Rattle.std.specs.Ordering.{nat_cmp, is_lt}
use Rattle.std.specs.Cmp.Lexicographic.{slice_cmp}
use Rattle.std.proofs.lemmas.List.{map-append, take-append-drop, get_or_default}
use Rattle.std.proofs.lemmas.List.Elements.{All-append, All-take, All-drop, All-map}
use Rattle.plugin_order.specs.declared.sheet.PluginSheet.{PluginSheet}
use Rattle.plugin_order.specs.Sheets.{name_at}
use Rattle.plugin_order.specs.Chains.{first_or, Leads, IsCycle, IsApart}
use Rattle.plugin_order.specs.Arranged.{ShowsCycle}
use Rattle.plugin_order.proofs.ChainLaws.{IsCycle-turned}
use Rattle.plugin_order.proofs.Apart.{IsApart-turned}

first_is : (f : ℕ → List ℕ) (c : List ℕ) (at : ℕ) (ys : List (List ℕ)) → at < length c
    → slice_index_or (map f (drop at c) ++ ys) 0 [] ≡ f (slice_index c at)
first_is f [] at ys h = absurd (omega arith)
first_is f (x ∷ xs) zero ys h = refl
first_is f (x ∷ xs) (suc i) ys h = first_is f xs i ys (omega arith)

pub shows : (sheets : List PluginSheet) (c : List ℕ) (at : ℕ) (shown : List (List ℕ)) → at < length c
    → ((k : ℕ) → k < length c → is_lt (slice_cmp nat_cmp (name_at sheets (slice_index c k)) (name_at sheets (slice_index c at))) ≡ false)
    → shown ≡ map (name_at sheets) (drop at c) ++ map (name_at sheets) (take at c)
    → IsApart c → (rule : ℕ → ℕ → Bool) → IsCycle rule c → ShowsCycle rule sheets shown
shows sheets c at shown h least is apart rule cycle =
    let f : ℕ → List ℕ = name_at sheets in
    let NotLess : List ℕ → Type 0 = λ name. is_lt (slice_cmp nat_cmp name (f (slice_index c at))) ≡ false in
    let each : All (λ p. NotLess (f p)) c = λ k d lt. (
    let e : get_or c k 0 ≡ get_or c k d = get_or_default c k 0 d lt in
    subst (λ (p : ℕ). NotLess (f p)) e (least k lt)) in
    let all : All NotLess (map f (drop at c) ++ map f (take at c)) =
    All-append NotLess (map f (drop at c)) (map f (take at c))
    (All-map NotLess f (drop at c) (All-drop (λ p. NotLess (f p)) at c each))
    (All-map NotLess f (take at c) (All-take (λ p. NotLess (f p)) at c each)) in
    let first : slice_index_or shown 0 [] ≡ f (slice_index c at) =
    ap (λ (xs : List (List ℕ)). slice_index_or xs 0 []) is ∙ first_is f c at (map f (take at c)) h in
    let whole : take at c ++ drop at c ≡ c = take-append-drop at c in
    record {
      plugins = drop at c ++ take at c;
      cycle = IsCycle-turned rule (take at c) (drop at c) (subst (IsCycle rule) (sym whole) cycle);
      apart = IsApart-turned (take at c) (drop at c) (subst IsApart (sym whole) apart);
      named = is ∙ sym (map-append f (drop at c) (take at c));
      least = subst (λ (name : List ℕ). All (λ other. is_lt (slice_cmp nat_cmp other name) ≡ false) shown) (sym first)
          (subst (λ (xs : List (List ℕ)). All NotLess xs) (sym is) all);
    }

-- what leads on by rules between the first n is among the first n
pub all_within : (rule : ℕ → ℕ → Bool) (n : ℕ) → ((p q : ℕ) → IsTrue (rule p q) → p < n) → (xs : List ℕ) (r : ℕ) → Leads rule xs r
    → (k : ℕ) → k < length xs → slice_index xs k < n
all_within rule n within [] r h k lt = absurd (omega arith)
all_within rule n within (x ∷ xs) r h zero lt = within x (first_or xs r) h.0
all_within rule n within (x ∷ xs) r h (suc k) lt = all_within rule n within xs r h.1 k (omega arith)

pub cycle_within : (rule : ℕ → ℕ → Bool) (n : ℕ) → ((p q : ℕ) → IsTrue (rule p q) → p < n) → (c : List ℕ) → IsCycle rule c
    → (k : ℕ) → k < length c → slice_index c k < n
cycle_within rule n within [] h k lt = absurd h
cycle_within rule n within (x ∷ xs) h k lt = all_within rule n within (x ∷ xs) x h k lt
