-- Visits of the devices that pass a test, one after the other.
use Rattle.std.proofs.Common.{◌≡◌, ℕ, zero, suc, ◌-◌, ◌≤◌, Bool, List, [], ◌∷◌, ◌++◌, length, drop, refl, sym, ap, ◌∙◌, arith, append_assoc, append-nil}
use Rattle.std.specs.List.{flat_map}
use Rattle.std.proofs.lemmas.List.{at_drop_all}
use Rattle.update_plans.specs.Walks.{is_child, places_from, visit}
use Rattle.update_plans.specs.declared.walk.Kin.{Kin}
use Rattle.update_plans.specs.declared.walk.Turn.{Turn}
use Rattle.update_plans.specs.declared.walk.Turn.TheVariants.{AfterParent, BeforeParent}

-- What is still to be put behind, from a place on.
abbrev pub rest_from : (ℕ → List ℕ) → (Kin → Bool) → List Kin → ℕ → List ℕ
rest_from visit test devices at = flat_map visit (places_from test at (drop at devices))

-- So far the order is what it was before, and the visits up to a place.
pub record IsVisiting (visit : ℕ → List ℕ) (test : Kin → Bool) (devices : List Kin) (before now : List ℕ) (at : ℕ) : Type 0 where
  pub comes : now ++ rest_from visit test devices at ≡ before ++ flat_map visit (places_from test 0 devices)

-- after the last place
pub visiting-all : (visit : ℕ → List ℕ) (test : Kin → Bool) (devices : List Kin) (before now : List ℕ) (at : ℕ) → length devices ≤ at
    → IsVisiting visit test devices before now at → now ≡ before ++ flat_map visit (places_from test 0 devices)
visiting-all visit test devices before now at h v =
    sym (append-nil now) ∙ ap (λ (l : List ℕ). now ++ l) (sym (at_drop_all (λ (l : List Kin). flat_map visit (places_from test at l)) devices at h)) ∙ v.comes

-- ---- a whole visit

-- the visits of a device's children of one turn
abbrev pub children_of : List Kin → ℕ → Turn → ℕ → List ℕ
children_of devices generations turn at = flat_map (visit devices generations) (places_from (is_child turn at) 0 devices)

pub visit-none : (devices : List Kin) (at generations : ℕ) → generations ≡ 0 → visit devices generations at ≡ []
unfolding visit
visit-none devices at generations none = rw none refl

-- the children that come first, the device, and the children that come behind it
pub visit-parts : (devices : List Kin) (at generations : ℕ) (old early own late : List ℕ) → (generations ≡ 0 → ⊥)
    → early ≡ old ++ children_of devices (generations - 1) BeforeParent at → own ≡ early ++ at ∷ []
    → late ≡ own ++ children_of devices (generations - 1) AfterParent at → late ≡ old ++ visit devices generations at
unfolding visit
visit-parts devices at zero old early own late some e o l = absurd (some refl)
visit-parts devices at (suc generations) old early own late some e o l =
    let first = flat_map (visit devices generations) (places_from (is_child BeforeParent at) 0 devices) in
    let last = flat_map (visit devices generations) (places_from (is_child AfterParent at) 0 devices) in
    let one_less : suc generations - 1 ≡ generations = omega arith in
    let e' : early ≡ old ++ first = e ∙ ap (λ (g : ℕ). old ++ children_of devices g BeforeParent at) one_less in
    let l' : late ≡ own ++ last = l ∙ ap (λ (g : ℕ). own ++ children_of devices g AfterParent at) one_less in
    l' ∙ ap (λ (xs : List ℕ). xs ++ last) (o ∙ ap (λ (xs : List ℕ). xs ++ at ∷ []) e')
    ∙ append_assoc (old ++ first) (at ∷ []) last ∙ append_assoc old first (at ∷ last)
