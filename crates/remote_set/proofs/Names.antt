-- Looking for a repeated name, one remote after the other.
use Rattle.std.proofs.Common.{◌≡◌, ℕ, ◌+◌, ◌<◌, Bool, true, false, cond, List, [], ◌∷◌, ◌++◌, length, take, drop, get_or, Option, Some, None, refl, sym, ap, ◌∙◌, append_assoc}
use Rattle.std.proofs.lemmas.List.{take_more}
use Rattle.std.specs.List.{list_any}
use Rattle.std.specs.Str.{bytes_eq}
use Rattle.remote_set.specs.declared.remote.Remote.{Remote}
use Rattle.remote_set.specs.Merged.{repeated_behind}
use Rattle.remote_set.proofs.Placing.{first_left}

one_here : (remotes : List Remote) (i : ℕ) (remote : Remote) → i < length remotes → remote ≡ get_or remotes i remote
    → repeated_behind (take i remotes) (drop i remotes)
    ≡ cond (list_any (λ earlier. bytes_eq earlier.name remote.name) (take i remotes)) (Some remote.name) (repeated_behind (take i remotes ++ remote ∷ []) (drop (i + 1) remotes))
one_here remotes i remote lt is = ap (λ (rs : List Remote). repeated_behind (take i remotes) rs) (first_left remotes i remote lt is)

pub name_passed : (remotes : List Remote) (i : ℕ) (remote : Remote) (total : Option (List ℕ)) → i < length remotes → remote ≡ get_or remotes i remote
    → list_any (λ earlier. bytes_eq earlier.name remote.name) (take i remotes) ≡ false
    → repeated_behind (take i remotes) (drop i remotes) ≡ total → repeated_behind (take (i + 1) remotes) (drop (i + 1) remotes) ≡ total
name_passed remotes i remote total lt is new so_far =
    ap (λ (rs : List Remote). repeated_behind rs (drop (i + 1) remotes)) (take_more remotes i remote lt ∙ ap (λ (r : Remote). take i remotes ++ r ∷ []) (sym is))
    ∙ sym (one_here remotes i remote lt is ∙ ap (λ (b : Bool). cond b (Some remote.name) (repeated_behind (take i remotes ++ remote ∷ []) (drop (i + 1) remotes))) new)
    ∙ so_far

pub name_found : (remotes : List Remote) (i : ℕ) (remote : Remote) (total : Option (List ℕ)) → i < length remotes → remote ≡ get_or remotes i remote
    → list_any (λ earlier. bytes_eq earlier.name remote.name) (take i remotes) ≡ true
    → repeated_behind (take i remotes) (drop i remotes) ≡ total → Some remote.name ≡ total
name_found remotes i remote total lt is old so_far =
    sym (one_here remotes i remote lt is ∙ ap (λ (b : Bool). cond b (Some remote.name) (repeated_behind (take i remotes ++ remote ∷ []) (drop (i + 1) remotes))) old)
    ∙ so_far

-- ---- one more

behind_last : (before : List Remote) (x : Remote) → list_any (λ earlier. bytes_eq earlier.name x.name) before ≡ false → repeated_behind before (x ∷ []) ≡ None
behind_last before x new = ap (λ (b : Bool). let o : Option (List ℕ) = cond b (Some x.name) None in o) new

behind_step : (before xs : List Remote) (r x : Remote) (b : Bool) → list_any (λ earlier. bytes_eq earlier.name r.name) before ≡ b
    → (repeated_behind (before ++ r ∷ []) xs ≡ None → repeated_behind (before ++ r ∷ []) (xs ++ x ∷ []) ≡ None)
    → repeated_behind before (r ∷ xs) ≡ None → repeated_behind before (r ∷ (xs ++ x ∷ [])) ≡ None
behind_step before xs r x true e h named =
    let found : repeated_behind before (r ∷ xs) ≡ Some r.name = ap (λ (b : Bool). cond b (Some r.name) (repeated_behind (before ++ r ∷ []) xs)) e in
    cc
behind_step before xs r x false e h named =
    ap (λ (b : Bool). cond b (Some r.name) (repeated_behind (before ++ r ∷ []) (xs ++ x ∷ []))) e
    ∙ h (sym (ap (λ (b : Bool). cond b (Some r.name) (repeated_behind (before ++ r ∷ []) xs)) e) ∙ named)

-- Remotes of different names, and one behind them of a name that none of them has.
pub still_named : (before xs : List Remote) (x : Remote) → list_any (λ earlier. bytes_eq earlier.name x.name) (before ++ xs) ≡ false
    → repeated_behind before xs ≡ None → repeated_behind before (xs ++ x ∷ []) ≡ None
still_named before [] x new named = behind_last before x (sym (ap (λ (rs : List Remote). list_any (λ (earlier : Remote). bytes_eq earlier.name x.name) rs) (append-none before)) ∙ new)
  where
    append-none : (rs : List Remote) → rs ++ [] ≡ rs
    append-none [] = refl
    append-none (r ∷ rs) = ap (λ (zs : List Remote). r ∷ zs) (append-none rs)
still_named before (r ∷ rs) x new named =
    behind_step before rs r x (list_any (λ (earlier : Remote). bytes_eq earlier.name r.name) before) refl
    (still_named (before ++ r ∷ []) rs x (ap (λ (zs : List Remote). list_any (λ (earlier : Remote). bytes_eq earlier.name x.name) zs) (append_assoc before (r ∷ []) rs) ∙ new))
    named
