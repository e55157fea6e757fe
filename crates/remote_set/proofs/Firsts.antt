-- The first remote that offers a release keeps it.
use Rattle.std.proofs.Common.{◌≡◌, ℕ, Bool, true, false, ◌||◌, ◌&&◌, cond, not, List, [], ◌∷◌, ◌++◌, map, refl, sym, ap, ◌∙◌, append_assoc}
use Rattle.release_catalogue.proofs.Indexes.{or_false}
use mathlib.Core.Path.{fun_ext}
use Rattle.std.specs.Prelude.{filter, flat_map}
use Rattle.std.specs.List.{list_any}
use Rattle.std.specs.Str.{bytes_eq}
use Rattle.std.proofs.lemmas.List.{append-nil}
use Rattle.std.proofs.lemmas.List.Concat.{flat_map-append}
use Rattle.std.proofs.lemmas.List.Folds.{list_any-append}
use Rattle.std.proofs.lemmas.Slice.Eq.{bytes_eq-Decides}
use Rattle.std.proofs.lemmas.Bool.{or_parts}
use Rattle.version_formats.specs.VersionOrder.{same_version}
use Rattle.fw_facts.specs.declared.release.Component.{Component}
use Rattle.fw_facts.specs.declared.release.Release.{Release}
use Rattle.remote_set.specs.declared.remote.Remote.{Remote}
use Rattle.remote_set.specs.Merged.{Placed, enabled_in_order, is_hidden, left_of, merged, offers, rank_of, without}
use Rattle.remote_set.specs.Firsts.{offered, offered_by, of_first}
use Rattle.remote_set.proofs.Equals.{has, hidden_alike}
use Rattle.remote_set.proofs.Order.{hidden_at, offering}

-- ---- what is left of a version

abbrev HidesAlike : (List ℕ → List ℕ → Bool) → Type 0
HidesAlike hides = (id version other : List ℕ) → same_version version other ≡ true → hides id version ≡ hides id other

nothing : (b : Bool) → cond {A = List Release} b [] [] ≡ []
nothing true = refl
nothing false = refl

abbrev stays : (List ℕ → List ℕ → Bool) → List ℕ → Release → Bool
stays hides id release = not (hides id release.version)

one_stays : (hides : List ℕ → List ℕ → Bool) (id version : List ℕ) (r : Release) (rs : List Release) (s h : Bool)
    → has version r ≡ s → hides id r.version ≡ h → (s ≡ true → h ≡ hides id version)
    → filter (has version) (filter (stays hides id) rs) ≡ cond (hides id version) [] (filter (has version) rs)
    → filter (has version) (filter (stays hides id) (r ∷ rs)) ≡ cond (hides id version) [] (filter (has version) (r ∷ rs))
one_stays hides id version r rs true true s h alike so =
    rw (h, s) (so ∙ rw (← alike refl) refl)
one_stays hides id version r rs true false s h alike so =
    rw (h, s) (ap (λ (xs : List Release). r ∷ xs) so ∙ rw (← alike refl) refl)
one_stays hides id version r rs false true s h alike so = rw (h, s) so
one_stays hides id version r rs false false s h alike so = rw (h, s) so

all_stay : (hides : List ℕ → List ℕ → Bool) → HidesAlike hides → (id version : List ℕ) (rs : List Release)
    → filter (has version) (filter (stays hides id) rs) ≡ cond (hides id version) [] (filter (has version) rs)
all_stay hides alike id version [] = sym (nothing (hides id version))
all_stay hides alike id version (r ∷ rs) =
    one_stays hides id version r rs (has version r) (hides id r.version) refl refl (alike id r.version version) (all_stay hides alike id version rs)

of_one : (hides : List ℕ → List ℕ → Bool) → HidesAlike hides → (id version : List ℕ) (c : Component) (b : Bool) → bytes_eq c.id id ≡ b
    → offered_by id version (without hides c) ≡ cond (hides id version) [] (offered_by id version c)
of_one hides alike id version c true e =
    let same : c.id ≡ id = (bytes_eq-Decides c.id id).0 e in
    rw e (ap (λ (own : List ℕ). filter (has version) (filter (stays hides own) c.releases)) same ∙ all_stay hides alike id version c.releases)
of_one hides alike id version c false e = rw e (sym (nothing (hides id version)))

both : {X : Type 0} (b : Bool) (xs ys : List X) → cond b [] xs ++ cond b [] ys ≡ cond b [] (xs ++ ys)
both true xs ys = refl
both false xs ys = refl

of_all : (hides : List ℕ → List ℕ → Bool) → HidesAlike hides → (id version : List ℕ) (cs : List Component)
    → offered id version (map (without hides) cs) ≡ cond (hides id version) [] (offered id version cs)
of_all hides alike id version [] = sym (nothing (hides id version))
of_all hides alike id version (c ∷ cs) =
    ap (λ (xs : List Release). xs ++ offered id version (map (without hides) cs)) (of_one hides alike id version c (bytes_eq c.id id) refl)
    ∙ ap (λ (xs : List Release). cond (hides id version) [] (offered_by id version c) ++ xs) (of_all hides alike id version cs)
    ∙ both (hides id version) (offered_by id version c) (offered id version cs)

-- ---- what isn't offered

none_has : (version : List ℕ) (rs : List Release) → list_any (has version) rs ≡ false → filter (has version) rs ≡ []
none_has version [] e = refl
none_has version (r ∷ rs) e =
    let n : (has version r ≡ false) × (list_any (has version) rs ≡ false) = or_parts (has version r) (list_any (has version) rs) e in
    rw n.0 (none_has version rs n.1)

none_of_one : (id version : List ℕ) (c : Component) (b : Bool) → bytes_eq c.id id ≡ b → (b && list_any (has version) c.releases) ≡ false
    → offered_by id version c ≡ []
none_of_one id version c true same e = rw same (none_has version c.releases e)
none_of_one id version c false same e = rw same refl

none_offered : (id version : List ℕ) (cs : List Component) → offers id version cs ≡ false → offered id version cs ≡ []
none_offered id version [] e = refl
none_offered id version (c ∷ cs) e =
    let n : ((bytes_eq c.id id && list_any (has version) c.releases) ≡ false) × (offers id version cs ≡ false)
    = or_parts (bytes_eq c.id id && list_any (has version) c.releases) (offers id version cs) e in
    ap (λ (xs : List Release). xs ++ offered id version cs) (none_of_one id version c (bytes_eq c.id id) refl n.0)
    ∙ none_offered id version cs n.1

-- ---- one remote after the other

-- What a remote has left of it.
abbrev left_there : List Remote → List ℕ → List ℕ → Placed → List Release
left_there remotes id version at = cond (is_hidden remotes (rank_of at) id version) [] (offered id version at.remote.catalogue)

joined : (b o : Bool) (own rest : List Release) → (o ≡ false → own ≡ []) → cond b [] own ++ cond (b || o) [] rest ≡ cond b [] (cond o own rest)
joined true o own rest none = refl
joined false true own rest none = append-nil own
joined false false own rest none = ap (λ (xs : List Release). xs ++ rest) (none refl)

-- Behind those that were passed.
walk : (remotes : List Remote) (id version : List ℕ) (before ats : List Placed) → enabled_in_order remotes ≡ before ++ ats
    → flat_map (left_there remotes id version) ats ≡ cond (list_any (offering id version) before) [] (of_first id version ats)
walk remotes id version before [] e = sym (nothing (list_any (offering id version) before))
walk remotes id version before (x ∷ xs) e =
    ap (λ (b : Bool). cond b [] (offered id version x.remote.catalogue) ++ flat_map (left_there remotes id version) xs) (hidden_at remotes before x xs id version e)
    ∙ ap (λ (rest : List Release). cond (list_any (offering id version) before) [] (offered id version x.remote.catalogue) ++ rest)
    (walk remotes id version (before ++ x ∷ []) xs (e ∙ sym (append_assoc before (x ∷ []) xs)))
    ∙ ap (λ (b : Bool). cond (list_any (offering id version) before) [] (offered id version x.remote.catalogue) ++ cond b [] (of_first id version xs))
    (list_any-append (offering id version) before (x ∷ []) ∙ ap (λ (b : Bool). list_any (offering id version) before || b) (or_false (offering id version x)))
    ∙ joined (list_any (offering id version) before) (offering id version x) (offered id version x.remote.catalogue) (of_first id version xs)
    (none_offered id version x.remote.catalogue)

-- ---- the merged catalogue

flat_flat : (f : Placed → List Component) (g : Component → List Release) (ats : List Placed) → flat_map g (flat_map f ats) ≡ flat_map (λ at. flat_map g (f at)) ats
flat_flat f g [] = refl
flat_flat f g (x ∷ xs) = flat_map-append g (f x) (flat_map f xs) ∙ ap (λ (rest : List Release). flat_map g (f x) ++ rest) (flat_flat f g xs)

pub first_wins : (remotes : List Remote) (id version : List ℕ) → offered id version (merged remotes) ≡ of_first id version (enabled_in_order remotes)
unfolding merged
first_wins remotes id version =
    flat_flat (left_of remotes) (offered_by id version) (enabled_in_order remotes)
    ∙ ap (λ (f : Placed → List Release). flat_map f (enabled_in_order remotes))
    (fun_ext (λ (at : Placed). of_all (is_hidden remotes (rank_of at)) (hidden_alike remotes (rank_of at)) id version at.remote.catalogue))
    ∙ walk remotes id version [] (enabled_in_order remotes) refl
