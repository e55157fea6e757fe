-- The claim on the device of one ID.
use Rattle.std.proofs.Common.{◌≡◌, ℕ, zero, suc, ◌<◌, true, false, List, [], ◌∷◌, length, map, get_or, set, refl, sym, ap, ◌∙◌, inl, inr, arith}
use Rattle.std.specs.Prelude.{Option, Some, IfSome, slice_get}
use Rattle.std.specs.List.{AllByRecursion, IsDistinct, list_any}
use Rattle.std.specs.Str.{bytes_eq}
use Rattle.std.proofs.lemmas.Bool.{cases_Bool, true≢false}
use Rattle.std.proofs.lemmas.List.Quantifiers.{position-Some}
use Rattle.std.proofs.lemmas.Map.Keys.{IsDistinct-head, IsDistinct-tail}
use Rattle.std.proofs.lemmas.Option.{slice_get-get_or}
use Rattle.std.proofs.lemmas.Slice.Eq.{bytes_eq-Decides}
use Rattle.fw_facts.specs.declared.view.DeviceView.{DeviceView}
use Rattle.device_list.specs.declared.selector.Selector.TheVariants.{Id}
use Rattle.device_list.specs.Lists.{claimed_on, ids_in, names, place}

abbrev with_claim : Option ℕ → DeviceView → DeviceView
with_claim claim view = record view { claim = claim }

-- where no device has the ID, nothing changes
pub none_claimed : (device : List ℕ) (claim : Option ℕ) (views : List DeviceView) → list_any (names (Id device)) views ≡ false
    → views ≡ map (claimed_on device claim) views
none_claimed device claim [] h = refl
none_claimed device claim (view ∷ views) h =
    elim (cases_Bool (bytes_eq device view.sheet.device)) [
      | inl here ↦ absurd (true≢false (sym (rw here refl) ∙ h))
      | inr other ↦
          let rest : list_any (names (Id device)) views ≡ false = sym (rw other refl) ∙ h in
          let first : view ≡ claimed_on device claim view = rw other refl in
          ap (λ (v : DeviceView). v ∷ views) first
          ∙ ap (λ (vs : List DeviceView). claimed_on device claim view ∷ vs) (none_claimed device claim views rest)
    ]

-- none of these devices has an ID that differs from theirs
none_named : (device : List ℕ) (views : List DeviceView) → AllByRecursion (λ other. bytes_eq device other ≡ false) (ids_in views)
    → list_any (names (Id device)) views ≡ false
none_named device [] h = refl
none_named device (view ∷ views) h = rw (h.0, none_named device views h.1) refl

-- the device at a place is the only one of its ID
one_claimed : (device : List ℕ) (claim : Option ℕ) (views : List DeviceView) (at : ℕ) (d : DeviceView) → IsDistinct bytes_eq (ids_in views)
    → at < length views → bytes_eq device (get_or views at d).sheet.device ≡ true → ((k : ℕ) → k < at → bytes_eq device (get_or views k d).sheet.device ≡ false)
    → set views at (with_claim claim (get_or views at d)) ≡ map (claimed_on device claim) views
one_claimed device claim [] at d distinct within here before = absurd (omega arith)
one_claimed device claim (view ∷ views) zero d distinct within here before =
    let same : device ≡ view.sheet.device = (bytes_eq-Decides device view.sheet.device).0 here in
    let others : list_any (names (Id view.sheet.device)) views ≡ false =
    none_named view.sheet.device views (IsDistinct-head bytes_eq view.sheet.device (ids_in views) distinct) in
    let rest : list_any (names (Id device)) views ≡ false = ap (λ (id : List ℕ). list_any (names (Id id)) views) same ∙ others in
    let first : with_claim claim view ≡ claimed_on device claim view = rw here refl in
    ap (λ (v : DeviceView). v ∷ views) first
    ∙ ap (λ (vs : List DeviceView). claimed_on device claim view ∷ vs) (none_claimed device claim views rest)
one_claimed device claim (view ∷ views) (suc at) d distinct within here before =
    let other : bytes_eq device view.sheet.device ≡ false = before 0 (omega arith) in
    let first : view ≡ claimed_on device claim view = rw other refl in
    ap (λ (v : DeviceView). v ∷ set views at (with_claim claim (get_or views at d))) first
    ∙ ap (λ (vs : List DeviceView). claimed_on device claim view ∷ vs)
    (one_claimed device claim views at d (IsDistinct-tail bytes_eq view.sheet.device (ids_in views) distinct) (omega arith) here (λ k h. before (suc k) (omega arith)))

put_there : (views new : List DeviceView) (at : ℕ) (claim : Option ℕ) (view : DeviceView) → slice_get views at ≡ Some view
    → IfSome (slice_get views at) (λ v. new ≡ set views at (with_claim claim v)) → new ≡ set views at (with_claim claim view)
put_there views new at claim view there put = rw there at put

-- the device at the place of its ID has another claim
pub placed_claim : (device : List ℕ) (claim : Option ℕ) (views new : List DeviceView) (at : ℕ) → IsDistinct bytes_eq (ids_in views) → place (Id device) views ≡ Some at
    → IfSome (slice_get views at) (λ v. new ≡ set views at (with_claim claim v)) → new ≡ map (claimed_on device claim) views
placed_claim device claim [] new at distinct found put = cc
placed_claim device claim (view ∷ views) new at distinct found put =
    let p = position-Some (names (Id device)) (view ∷ views) at view found in
    let there : slice_get (view ∷ views) at ≡ Some (get_or (view ∷ views) at view) = slice_get-get_or (view ∷ views) at view p.0 in
    put_there (view ∷ views) new at claim (get_or (view ∷ views) at view) there put
    ∙ one_claimed device claim (view ∷ views) at view distinct p.0 p.1 p.2

pub place_within : (device : List ℕ) (views : List DeviceView) (at : ℕ) → place (Id device) views ≡ Some at → at < length views
place_within device [] at found = cc
place_within device (view ∷ views) at found = (position-Some (names (Id device)) (view ∷ views) at view found).0
