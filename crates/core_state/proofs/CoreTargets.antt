-- A request has a target only where its device is present.
use Rattle.std.proofs.Common.{◌≡◌, ℕ, true, false, List, [], ◌∷◌, refl, ap, sym, ◌∙◌}
use Rattle.std.proofs.lemmas.Option.{same_Some}
use Rattle.std.specs.Prelude.{Option, Some, None, IfSome, IsTrue, option_map, option_and_then, slice_get}
use Rattle.std.specs.List.{list_any}
use Rattle.fw_facts.specs.Views.{guids_of, guids_shown, is_home}
use Rattle.fw_facts.specs.declared.release.Component.{Component}
use Rattle.fw_facts.specs.declared.seen.Seen.{Seen}
use Rattle.fw_facts.specs.declared.sheet.Sheet.{Sheet}
use Rattle.fw_facts.specs.declared.view.DeviceView.{DeviceView}
use Rattle.release_catalogue.specs.Lookup.{Chosen, chosen, provides}
use Rattle.update_log.proofs.Accepts.{chosen-provides}
use Rattle.update_log.specs.Known.{Target, target_at, target_of}
use Rattle.update_log.specs.declared.facts.Facts.{Facts}

none-any : {X : Type 0} (xs : List X) → list_any (λ x. false) xs ≡ false
none-any [] = refl
none-any (x ∷ xs) = none-any xs

home-shown : (sheet : Sheet) (seen : Seen) (component : Component) → provides (guids_shown sheet seen) component ≡ true → IsTrue (is_home seen)
home-shown sheet (Seen.Home raw mode) component h = refl
home-shown sheet Seen.Gone component h = let e : false ≡ true = sym (none-any component.provides) ∙ h in cc
home-shown sheet Seen.Stranger component h = let e : false ≡ true = sym (none-any component.provides) ∙ h in cc

pub target-home : (facts : Facts) (views : List DeviceView) (version : List ℕ) (place : ℕ) (t : Target) → target_at facts views version place ≡ Some t → IsTrue (is_home t.view.seen)
target-home facts views version place t h = at-view (slice_get views place) h
  where
    at-chosen : (view : DeviceView) (o : Option Chosen) → chosen facts.catalogue (guids_of view) version ≡ o → option_map (λ c. let u : Target = record { place = place; view = view; chosen = c } in u) o ≡ Some t → IsTrue (is_home t.view.seen)
    at-chosen view None e g = cc
    at-chosen view (Some c) e g =
        let same : record { place = place; view = view; chosen = c } ≡ t = same_Some (record { place = place; view = view; chosen = c }) t g in
        home-shown t.view.sheet t.view.seen t.chosen.component
        (ap (λ (u : Target). provides (guids_of u.view) u.chosen.component) (sym same)
        ∙ chosen-provides facts.catalogue (guids_of view) version c e)

    at-view : (o : Option DeviceView) → option_and_then (target_of facts version place) o ≡ Some t → IsTrue (is_home t.view.seen)
    at-view None g = cc
    at-view (Some view) g = at-chosen view (chosen facts.catalogue (guids_of view) version) refl g

-- The same of a target in another form.
pub home-by : {X : Type 0} (f : X → Target) (facts : Facts) (views : List DeviceView) (version : List ℕ) (place : ℕ) (o : Option X) → option_map f o ≡ target_at facts views version place → IfSome o (λ x. IsTrue (is_home (f x).view.seen))
home-by f facts views version place None h = tt
home-by f facts views version place (Some x) h = target-home facts views version place (f x) (sym h)
