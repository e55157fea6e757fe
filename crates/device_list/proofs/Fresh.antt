-- The IDs of a list of devices differ, so each device may be added to those before it.
use Rattle.std.proofs.Common.{◌≡◌, ℕ, zero, suc, ◌<◌, ◌≤◌, Bool, false, List, [], ◌∷◌, length, take, None, Some, refl, sym, ap, ◌∙◌, inl, inr, arith}
use Rattle.std.specs.Prelude.{slice_get, is_some, position}
use Rattle.std.specs.List.{AllByRecursion, IsDistinct, list_any, position_or_len}
use Rattle.std.specs.Str.{bytes_eq}
use Rattle.std.proofs.lemmas.Bool.{cases_Bool, le-ltb, ne_eqb, true≢false}
use Rattle.std.proofs.lemmas.List.{length-take}
use Rattle.std.proofs.lemmas.Map.Keys.{IsDistinct-head, IsDistinct-tail}
use Rattle.std.proofs.lemmas.Option.{slice_get_within}
use Rattle.fw_facts.specs.declared.view.DeviceView.{DeviceView}
use Rattle.device_list.specs.declared.selector.Selector.TheVariants.{Id}
use Rattle.device_list.specs.Lists.{ids_in, names, refused}
use Rattle.device_list.proofs.GuidLaws.{bytes_eq-symm}

-- an ID that differs from all others differs from that of each device
differs_at : (id : List ℕ) (views : List DeviceView) (at : ℕ) (view : DeviceView) → AllByRecursion (λ other. bytes_eq id other ≡ false) (ids_in views)
    → slice_get views at ≡ Some view → bytes_eq id view.sheet.device ≡ false
differs_at id [] at view h there = cc
differs_at id (first ∷ views) zero view h there =
    let same : first ≡ view = cc in
    ap (λ (v : DeviceView). bytes_eq id v.sheet.device) (sym same) ∙ h.0
differs_at id (first ∷ views) (suc at) view h there = differs_at id views at view h.1 there

-- no device before one has its ID
pub none_before : (views : List DeviceView) (at : ℕ) (view : DeviceView) → IsDistinct bytes_eq (ids_in views) → slice_get views at ≡ Some view
    → list_any (names (Id view.sheet.device)) (take at views) ≡ false
none_before [] at view distinct there = cc
none_before (first ∷ views) zero view distinct there = refl
none_before (first ∷ views) (suc at) view distinct there =
    let other : bytes_eq view.sheet.device first.sheet.device ≡ false =
    bytes_eq-symm view.sheet.device first.sheet.device
    ∙ differs_at first.sheet.device views at view (IsDistinct-head bytes_eq first.sheet.device (ids_in views) distinct) there in
    rw (other, none_before views at view (IsDistinct-tail bytes_eq first.sheet.device (ids_in views) distinct) there) refl

-- where none passes, no place is told
none_passes : (p : DeviceView → Bool) (views : List DeviceView) → list_any p views ≡ false → length views ≤ position_or_len p views
none_passes p [] h = omega arith
none_passes p (view ∷ views) h =
    elim (cases_Bool (p view)) [
      | inl passes ↦ absurd (true≢false (sym (rw passes refl) ∙ h))
      | inr fails ↦
          let rest : list_any p views ≡ false = sym (rw fails refl) ∙ h in
          let more : length views ≤ position_or_len p views = none_passes p views rest in
          rw fails (omega arith)
    ]

no_place : (p : DeviceView → Bool) (views : List DeviceView) → list_any p views ≡ false → is_some (position p views) ≡ false
no_place p views h = rw (le-ltb (position_or_len p views) (length views) (none_passes p views h)) refl

pub fresh : (views : List DeviceView) (at : ℕ) (view : DeviceView) → IsDistinct bytes_eq (ids_in views) → length views ≤ 256 → slice_get views at ≡ Some view
    → refused (take at views) view.sheet.device ≡ None
fresh views at view distinct few there =
    let within : at < length views = slice_get_within views at view there in
    let shorter : length (take at views) ≡ 256 → ⊥ = λ full. omega (arith, full, length-take at views, within, few) in
    rw (no_place (names (Id view.sheet.device)) (take at views) (none_before views at view distinct there), ne_eqb (length (take at views)) 256 shorter) refl
