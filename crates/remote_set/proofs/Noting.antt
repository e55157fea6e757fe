-- What an index says of some releases, one more at a time.
use Rattle.std.proofs.Common.{◌≡◌, ℕ, ◌+◌, ◌<◌, Bool, true, false, cond, ◌||◌, ◌&&◌, List, [], ◌∷◌, length, drop, take, get_or, Option, Some, Ordering, refl, sym, ap, ◌∙◌}
use Rattle.std.proofs.lemmas.List.Folds.{list_any_more}
use Rattle.std.specs.BTreeMap.{is_at}
use Rattle.std.specs.Cmp.{Equal-is}
use Rattle.std.specs.Cmp.Lexicographic.{slice_cmp, texts_ties}
use Rattle.std.specs.List.{list_any}
use Rattle.std.specs.Map.{lookup}
use Rattle.std.specs.Option.{option_map_or}
use Rattle.std.specs.Ordering.{is_eq, nat_cmp, ordering_then}
use Rattle.std.specs.Str.{bytes_eq}
use Rattle.std.specs.declared.cmp.Ordering.TheVariants.{Less, Equal, Greater}
use Rattle.release_catalogue.proofs.Indexes.{or_false, or_assoc}
use Rattle.version_formats.specs.VersionOrder.{same_version, version_cmp}
use Rattle.fw_facts.specs.declared.release.Component.{Component}
use Rattle.fw_facts.specs.declared.release.Release.{Release}
use Rattle.remote_set.specs.declared.key.ReleaseKey.{ReleaseKey}
use Rattle.remote_set.specs.declared.rank.Rank.{Rank}
use Rattle.remote_set.specs.declared.remote.Remote.{Remote}
use Rattle.remote_set.specs.Indexes.{is_offered_before}
use Rattle.remote_set.specs.Keys.{key_cmp, key_cmp_total}
use Rattle.remote_set.specs.Merged.{Placed, comes_before, offers, placed_from, rank_of}
use Rattle.remote_set.proofs.Placing.{placed, placed_left}

-- ---- tests

-- one more under one test
pub under : (old test so_far here : Bool) → ((old || (test && so_far)) || (test && here)) ≡ (old || (test && (so_far || here)))
under true test so_far here = refl
under false true so_far here = refl
under false false so_far here = refl

-- and under two
pub under_both : (old test second so_far here : Bool)
    → ((old || (test && (second && so_far))) || (test && (second && here))) ≡ (old || (test && (second && (so_far || here))))
under_both true test second so_far here = refl
under_both false true true so_far here = refl
under_both false true false so_far here = refl
under_both false false second so_far here = refl

-- ---- one release

abbrev pub key : List ℕ → List ℕ → ReleaseKey
key id version = record { id = id; version = version }

then_is : (first second : Ordering) → is_eq (ordering_then first second) ≡ (is_eq first && is_eq second)
then_is Less second = refl
then_is Equal second = refl
then_is Greater second = refl

-- Two keys are equal where their IDs are the same text and their versions are equal.
pub equal_keys : (id other version shown : List ℕ)
    → is_at (key_cmp (record { id = id; version = version })) (record { id = other; version = shown }) ≡ (bytes_eq id other && same_version version shown)
equal_keys id other version shown =
    then_is (slice_cmp nat_cmp id other) (version_cmp version shown)
    ∙ ap (λ (b : Bool). b && same_version version shown) (sym (texts_ties id other))

lookup_alike : (test other : ReleaseKey → Bool) → ((k : ReleaseKey) → test k ≡ other k) → (entries : List (ReleaseKey × Rank)) → lookup test entries ≡ lookup other entries
lookup_alike test other same [] = refl
lookup_alike test other same (e ∷ es) =
    ap (λ (b : Bool). cond b (Some e.1) (lookup test es)) (same e.0) ∙ ap (λ (o : Option Rank). cond (other e.0) (Some e.1) o) (lookup_alike test other same es)

-- Under equal keys the same stands.
found_alike : (k q : ReleaseKey) (entries : List (ReleaseKey × Rank)) → is_at (key_cmp k) q ≡ true
    → lookup (is_at (key_cmp k)) entries ≡ lookup (is_at (key_cmp q)) entries
found_alike k q entries e =
    let equal : key_cmp k q ≡ Equal = (Equal-is (key_cmp k q)).0 e in
    lookup_alike (is_at (key_cmp k)) (is_at (key_cmp q)) (λ x. ap is_eq (key_cmp_total.congr k q x equal)) entries

and_true : (b : Bool) → b ≡ (b && true)
and_true true = refl
and_true false = refl

and_false : (b : Bool) → false ≡ (b && false)
and_false true = refl
and_false false = refl

-- What stands under a release comes before a rank.
abbrev told : Rank → Option Rank → Bool
told rank o = option_map_or (λ found. comes_before found rank) o false

noted_by : (own q : ReleaseKey) (old new : List (ReleaseKey × Rank)) (first : Rank) (rank at : Rank) (b : Bool) → is_at (key_cmp own) q ≡ b
    → lookup (is_at (key_cmp q)) new ≡ cond (is_at (key_cmp own) q) (Some first) (lookup (is_at (key_cmp q)) old)
    → comes_before first rank ≡ (told rank (lookup (is_at (key_cmp own)) old) || comes_before at rank)
    → told rank (lookup (is_at (key_cmp q)) new) ≡ (told rank (lookup (is_at (key_cmp q)) old) || (comes_before at rank && is_at (key_cmp own) q))
noted_by own q old new first rank at true e updates is =
    ap (told rank) (updates ∙ ap (λ (b : Bool). cond b (Some first) (lookup (is_at (key_cmp q)) old)) e)
    ∙ is
    ∙ ap (λ (o : Option Rank). told rank o || comes_before at rank) (found_alike own q old e)
    ∙ ap (λ (b : Bool). told rank (lookup (is_at (key_cmp q)) old) || b) (and_true (comes_before at rank) ∙ ap (λ (b : Bool). comes_before at rank && b) (sym e))
noted_by own q old new first rank at false e updates is =
    ap (told rank) (updates ∙ ap (λ (b : Bool). cond b (Some first) (lookup (is_at (key_cmp q)) old)) e)
    ∙ sym (or_false (told rank (lookup (is_at (key_cmp q)) old)))
    ∙ ap (λ (b : Bool). told rank (lookup (is_at (key_cmp q)) old) || b) (and_false (comes_before at rank) ∙ ap (λ (b : Bool). comes_before at rank && b) (sym e))

pub noted : (own other shown version : List ℕ) (old new : List (ReleaseKey × Rank)) (first : Rank) (rank at : Rank)
    → lookup (is_at (key_cmp (key other version))) new
    ≡ cond (is_at (key_cmp (key own shown)) (key other version)) (Some first) (lookup (is_at (key_cmp (key other version))) old)
    → comes_before first rank ≡ (told rank (lookup (is_at (key_cmp (key own shown))) old) || comes_before at rank)
    → is_offered_before new rank other version ≡ (is_offered_before old rank other version || (comes_before at rank && (bytes_eq own other && same_version shown version)))
noted own other shown version old new first rank at updates is =
    noted_by (key own shown) (key other version) old new first rank at (is_at (key_cmp (key own shown)) (key other version)) refl updates is
    ∙ ap (λ (b : Bool). is_offered_before old rank other version || (comes_before at rank && b)) (equal_keys own other shown version)

-- ---- one after the other

abbrev shows : List ℕ → Release → Bool
shows version release = same_version release.version version

pub release_noted : (releases : List Release) (i : ℕ) (r : Release) (version : List ℕ) (old before new rank id : Bool) → i < length releases → r ≡ get_or releases i r
    → before ≡ (old || (rank && (id && list_any (λ release. same_version release.version version) (take i releases))))
    → new ≡ (before || (rank && (id && same_version r.version version)))
    → new ≡ (old || (rank && (id && list_any (λ release. same_version release.version version) (take (i + 1) releases))))
release_noted releases i r version old before new rank id lt is so_far here =
    here ∙ ap (λ (b : Bool). b || (rank && (id && same_version r.version version))) so_far
    ∙ under_both old rank id (list_any (shows version) (take i releases)) (same_version r.version version)
    ∙ ap (λ (b : Bool). old || (rank && (id && b)))
    (ap (λ (x : Release). list_any (shows version) (take i releases) || shows version x) is ∙ sym (list_any_more (shows version) releases i r lt))

abbrev has : List ℕ → List ℕ → Component → Bool
has id version component = bytes_eq component.id id && list_any (shows version) component.releases

pub component_noted : (components : List Component) (i : ℕ) (c : Component) (items : List Release) (id version : List ℕ) (old before new rank : Bool)
    → i < length components → c ≡ get_or components i c → items ≡ c.releases
    → before ≡ (old || (rank && offers id version (take i components)))
    → new ≡ (before || (rank && (bytes_eq c.id id && list_any (λ release. same_version release.version version) items)))
    → new ≡ (old || (rank && offers id version (take (i + 1) components)))
component_noted components i c items id version old before new rank lt is items_are so_far here =
    here ∙ ap (λ (rs : List Release). before || (rank && (bytes_eq c.id id && list_any (shows version) rs))) items_are
    ∙ ap (λ (b : Bool). b || (rank && has id version c)) so_far
    ∙ under old rank (list_any (has id version) (take i components)) (has id version c)
    ∙ ap (λ (b : Bool). old || (rank && b))
    (ap (λ (x : Component). list_any (has id version) (take i components) || has id version x) is ∙ sym (list_any_more (has id version) components i c lt))

-- ---- the remotes from a place on

abbrev pub hides : Rank → List ℕ → List ℕ → Placed → Bool
hides rank id version other = other.remote.enabled && (comes_before (rank_of other) rank && offers id version other.remote.catalogue)

pub one_less : (remotes : List Remote) (i : ℕ) (remote : Remote) (rank : Rank) (id version : List ℕ) (old new total : Bool)
    → i < length remotes → remote ≡ get_or remotes i remote
    → new ≡ (old || hides rank id version (placed i remote))
    → (old || list_any (hides rank id version) (placed_from i (drop i remotes))) ≡ total
    → (new || list_any (hides rank id version) (placed_from (i + 1) (drop (i + 1) remotes))) ≡ total
one_less remotes i remote rank id version old new total lt is step so_far =
    ap (λ (b : Bool). b || list_any (hides rank id version) (placed_from (i + 1) (drop (i + 1) remotes))) step
    ∙ or_assoc old (hides rank id version (placed i remote)) (list_any (hides rank id version) (placed_from (i + 1) (drop (i + 1) remotes)))
    ∙ ap (λ (ps : List Placed). old || list_any (hides rank id version) ps) (sym (placed_left remotes i remote lt is))
    ∙ so_far
