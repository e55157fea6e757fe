-- What a look-up in the merged catalogue finds.
use Rattle.std.proofs.Common.{◌≡◌, ℕ, Bool, true, false, ◌||◌, ◌&&◌, cond, not, List, [], ◌∷◌, ◌++◌, All, Option, Some, None, refl, sym, ap, ◌∙◌, append_assoc}
use mathlib.Core.Path.{fun_ext}
use Rattle.std.specs.Prelude.{find, flat_map, option_map}
use Rattle.std.specs.List.{list_any}
use Rattle.std.specs.Option.{option_or}
use Rattle.std.specs.Str.{bytes_eq}
use Rattle.std.proofs.lemmas.List.Elements.{All-nil, All-cons, All-head, All-tail, All-append, All-weaker}
use Rattle.std.proofs.lemmas.List.Folds.{list_any_none}
use Rattle.std.proofs.lemmas.Slice.Eq.{bytes_eq-Decides}
use Rattle.version_formats.specs.VersionOrder.{same_version}
use Rattle.fw_facts.specs.declared.release.Component.{Component}
use Rattle.fw_facts.specs.declared.release.Release.{Release}
use Rattle.release_catalogue.specs.Lookup.{chosen, provides}
use Rattle.remote_set.specs.declared.remote.Remote.{Remote}
use Rattle.remote_set.specs.Merged.{Placed, enabled_in_order, is_hidden, left_of, merged, offers, rank_of}
use Rattle.remote_set.specs.Finds.{IdsTell, first_answer, found_unhidden, what_is_found}
use Rattle.remote_set.proofs.Equals.{has, has_alike}
use Rattle.remote_set.proofs.Order.{hidden_at, offering}
use Rattle.remote_set.proofs.Searches.{Found, Test, first-map, in_one, search, search-flat, search-without, searched}

-- A release of the version.
abbrev of_version : List ℕ → Test
of_version version id r = has version r

-- The same, that isn't hidden from a remote.
abbrev unhidden : List Remote → List ℕ → Placed → Test
unhidden remotes version at id r = has version r && not (is_hidden remotes (rank_of at) id r.version)

-- What each remote has of it, and what it has unhidden.
abbrev own : List (List ℕ) → List ℕ → Placed → Option Found
own guids version at = search guids (of_version version) at.remote.catalogue

abbrev shown : List Remote → List (List ℕ) → List ℕ → Placed → Option Found
shown remotes guids version at = search guids (unhidden remotes version at) at.remote.catalogue

-- ---- the merged catalogue

first_shown : (remotes : List Remote) (guids : List (List ℕ)) (version : List ℕ)
    → option_map what_is_found (chosen (merged remotes) guids version) ≡ first_answer (shown remotes guids version) (enabled_in_order remotes)
unfolding merged chosen
first_shown remotes guids version =
    searched guids (of_version version) 0 (flat_map (left_of remotes) (enabled_in_order remotes))
    ∙ search-flat guids (of_version version) (left_of remotes) (enabled_in_order remotes)
    ∙ ap (λ (f : Placed → Option Found). first_answer f (enabled_in_order remotes))
    (fun_ext (λ (at : Placed). search-without (is_hidden remotes (rank_of at)) guids (of_version version) at.remote.catalogue))

pub finds_unhidden_one : (remotes : List Remote) (guids : List (List ℕ)) (version : List ℕ)
    → option_map what_is_found (chosen (merged remotes) guids version)
    ≡ option_map what_is_found (first_answer (found_unhidden remotes guids version) (enabled_in_order remotes))
finds_unhidden_one remotes guids version =
    first_shown remotes guids version
    ∙ ap (λ (f : Placed → Option Found). first_answer f (enabled_in_order remotes))
    (fun_ext (λ (at : Placed). sym (searched guids (unhidden remotes version at) 0 at.remote.catalogue)))
    ∙ sym (first-map (found_unhidden remotes guids version) (enabled_in_order remotes))

-- ---- where IDs tell which components provide the GUIDs

abbrev Tells : List (List ℕ) → (List ℕ → Bool) → Component → Type 0
Tells guids is_for component = provides guids component ≡ is_for component.id

neither : {X : Type 0} (a b : Option X) → option_or a b ≡ None → (a ≡ None) × (b ≡ None)
neither None b e = (refl, e)
neither (Some x) b e = cc

none-mapped : {X Y : Type 0} (f : X → Y) (o : Option X) → option_map f o ≡ None → o ≡ None
none-mapped f None e = refl
none-mapped f (Some x) e = cc

none-step : {X : Type 0} (p : X → Bool) (x : X) (xs : List X) (b : Bool) → p x ≡ b → cond b (Some x) (find p xs) ≡ None
    → (find p xs ≡ None → list_any p xs ≡ false) → (p x || list_any p xs) ≡ false
none-step p x xs true h e more = cc
none-step p x xs false h e more = rw h (more e)

none-any : {X : Type 0} (p : X → Bool) (xs : List X) → find p xs ≡ None → list_any p xs ≡ false
none-any p [] e = refl
none-any p (x ∷ xs) e = none-step p x xs (p x) refl e (none-any p xs)

-- A component that is for the device has no release of the version.
none_here : (guids : List (List ℕ)) (is_for : List ℕ → Bool) (version : List ℕ) (c : Component) (id : List ℕ)
    → Tells guids is_for c → c.id ≡ id → is_for id ≡ true → cond (provides guids c) (in_one c (find (has version) c.releases)) None ≡ None
    → list_any (has version) c.releases ≡ false
none_here guids is_for version c id tells same fits none =
    let for_it : provides guids c ≡ true = tells ∙ ap is_for same ∙ fits in
    none-any (has version) c.releases
    (none-mapped (λ (r : Release). let f : Found = (record c { releases = [] }, r) in f) (find (has version) c.releases)
    (sym (ap (λ (b : Bool). cond b (in_one c (find (has version) c.releases)) None) for_it) ∙ none))

-- A remote with nothing of the version for the device offers no equal version of a component for it.
not_offered : (guids : List (List ℕ)) (is_for : List ℕ → Bool) (version id same : List ℕ) (cs : List Component)
    → All (Tells guids is_for) cs → is_for id ≡ true → same_version same version ≡ true → search guids (of_version version) cs ≡ None
    → offers id same cs ≡ false
not_offered guids is_for version id same [] tells fits equal none = refl
not_offered guids is_for version id same (c ∷ cs) tells fits equal none =
    by (bytes_eq c.id id) refl (not_offered guids is_for version id same cs (All-tail (Tells guids is_for) c cs tells) fits equal parts.1)
  where
    parts : (cond (provides guids c) (in_one c (find (has version) c.releases)) None ≡ None) × (search guids (of_version version) cs ≡ None)
    parts = neither (cond (provides guids c) (in_one c (find (has version) c.releases)) None) (search guids (of_version version) cs) none

    here : c.id ≡ id → list_any (has same) c.releases ≡ false
    here is =
        ap (λ (test : Release → Bool). list_any test c.releases) (has_alike same version equal)
        ∙ none_here guids is_for version c id (All-head (Tells guids is_for) c cs tells) is fits parts.0

    by : (b : Bool) → bytes_eq c.id id ≡ b → offers id same cs ≡ false → offers id same (c ∷ cs) ≡ false
    by true e more =
        ap (λ (b : Bool). (b && list_any (has same) c.releases) || offers id same cs) e
        ∙ ap (λ (b : Bool). b || offers id same cs) (here ((bytes_eq-Decides c.id id).0 e))
        ∙ more
    by false e more = ap (λ (b : Bool). (b && list_any (has same) c.releases) || offers id same cs) e ∙ more

-- Of these components nothing is hidden that is for the device.
abbrev Unhid : (List ℕ → List ℕ → Bool) → List (List ℕ) → List ℕ → Component → Type 0
Unhid hides guids version c = provides guids c ≡ true → (same : List ℕ) → same_version same version ≡ true → hides c.id same ≡ false

and_not : (s h : Bool) → (s ≡ true → h ≡ false) → (s && not h) ≡ s
and_not true h k = rw (k refl) refl
and_not false h k = refl

one_whole : (hides : List ℕ → List ℕ → Bool) (guids : List (List ℕ)) (version : List ℕ) (c : Component) (b : Bool) → provides guids c ≡ b → Unhid hides guids version c
    → cond b (in_one c (find (λ r. has version r && not (hides c.id r.version)) c.releases)) None ≡ cond b (in_one c (find (has version) c.releases)) None
one_whole hides guids version c true for_it unhid =
    ap (λ (test : Release → Bool). in_one c (find test c.releases))
    (fun_ext (λ (r : Release). and_not (has version r) (hides c.id r.version) (unhid for_it r.version)))
one_whole hides guids version c false for_it unhid = refl

all_whole : (hides : List ℕ → List ℕ → Bool) (guids : List (List ℕ)) (version : List ℕ) (cs : List Component) → All (Unhid hides guids version) cs
    → search guids (λ id r. has version r && not (hides id r.version)) cs ≡ search guids (of_version version) cs
all_whole hides guids version [] all = refl
all_whole hides guids version (c ∷ cs) all =
    ap (λ (o : Option Found). option_or o (search guids (λ id r. has version r && not (hides id r.version)) cs))
    (one_whole hides guids version c (provides guids c) refl (All-head (Unhid hides guids version) c cs all))
    ∙ ap (λ (o : Option Found). option_or (cond (provides guids c) (in_one c (find (has version) c.releases)) None) o)
    (all_whole hides guids version cs (All-tail (Unhid hides guids version) c cs all))

-- A remote whose IDs tell, and one that has nothing of the version for the device too.
abbrev AllTell : List (List ℕ) → (List ℕ → Bool) → Placed → Type 0
AllTell guids is_for at = All (Tells guids is_for) at.remote.catalogue

abbrev HasNone : List (List ℕ) → (List ℕ → Bool) → List ℕ → Placed → Type 0
HasNone guids is_for version at = AllTell guids is_for at × (own guids version at ≡ None)

-- Behind remotes that have nothing of it, a remote shows what it has.
shows_own : (remotes : List Remote) (guids : List (List ℕ)) (is_for : List ℕ → Bool) (version : List ℕ) (before : List Placed) (at : Placed) (behind : List Placed)
    → enabled_in_order remotes ≡ before ++ at ∷ behind → All (HasNone guids is_for version) before → AllTell guids is_for at
    → shown remotes guids version at ≡ own guids version at
shows_own remotes guids is_for version before at behind e none tells =
    all_whole (is_hidden remotes (rank_of at)) guids version at.remote.catalogue
    (All-weaker (Tells guids is_for) (Unhid (is_hidden remotes (rank_of at)) guids version)
    (λ c told for_it same equal.
    hidden_at remotes before at behind c.id same e
    ∙ list_any_none (offering c.id same) before
    (All-weaker (HasNone guids is_for version) (λ (o : Placed). offering c.id same o ≡ false)
    (λ o h. not_offered guids is_for version c.id same o.remote.catalogue h.0 (sym told ∙ for_it) equal h.1) before none))
    at.remote.catalogue tells)

walk : (remotes : List Remote) (guids : List (List ℕ)) (is_for : List ℕ → Bool) (version : List ℕ) (before ats : List Placed)
    → enabled_in_order remotes ≡ before ++ ats → All (HasNone guids is_for version) before → All (AllTell guids is_for) ats
    → first_answer (shown remotes guids version) ats ≡ first_answer (own guids version) ats
walk remotes guids is_for version before [] e none tell = refl
walk remotes guids is_for version before (x ∷ xs) e none tell =
    ap (λ (o : Option Found). option_or o (first_answer (shown remotes guids version) xs))
    (shows_own remotes guids is_for version before x xs e none (All-head (AllTell guids is_for) x xs tell))
    ∙ by (own guids version x) refl
    (λ h.
    walk remotes guids is_for version (before ++ x ∷ []) xs (e ∙ sym (append_assoc before (x ∷ []) xs))
    (All-append (HasNone guids is_for version) before (x ∷ []) none
    (All-cons (HasNone guids is_for version) x [] (All-head (AllTell guids is_for) x xs tell, h) (All-nil (HasNone guids is_for version))))
    (All-tail (AllTell guids is_for) x xs tell))
  where
    by : (o : Option Found) → own guids version x ≡ o
        → (own guids version x ≡ None → first_answer (shown remotes guids version) xs ≡ first_answer (own guids version) xs)
        → option_or (own guids version x) (first_answer (shown remotes guids version) xs) ≡ option_or (own guids version x) (first_answer (own guids version) xs)
    by None h more = ap (λ (o : Option Found). option_or (own guids version x) o) (more h)
    by (Some f) h more =
        ap (λ (o : Option Found). option_or o (first_answer (shown remotes guids version) xs)) h
        ∙ sym (ap (λ (o : Option Found). option_or o (first_answer (own guids version) xs)) h)

pub finds_first_one : (remotes : List Remote) (guids : List (List ℕ)) (version : List ℕ) (is_for : List ℕ → Bool) → IdsTell remotes guids is_for
    → option_map what_is_found (chosen (merged remotes) guids version)
    ≡ option_map what_is_found (first_answer (λ at. chosen at.remote.catalogue guids version) (enabled_in_order remotes))
unfolding chosen
finds_first_one remotes guids version is_for tell =
    first_shown remotes guids version
    ∙ walk remotes guids is_for version [] (enabled_in_order remotes) refl (All-nil (HasNone guids is_for version)) tell
    ∙ ap (λ (f : Placed → Option Found). first_answer f (enabled_in_order remotes))
    (fun_ext (λ (at : Placed). sym (searched guids (of_version version) 0 at.remote.catalogue)))
    ∙ sym (first-map (λ (at : Placed). chosen at.remote.catalogue guids version) (enabled_in_order remotes))
