-- What adding a device does to the set of IDs and the map of GUIDs.
use Rattle.std.proofs.Common.{◌≡◌, ℕ, ◌<◌, ◌≤◌, Bool, true, false, List, [], ◌∷◌, ◌++◌, length, map, None, Some, Ok, Err, refl, sym, ap, subst, ◌∙◌, arith, length-append, ◌==◌, if◌then◌else◌}
use Rattle.std.specs.Prelude.{Vec, Result, OnOk, OnErr, is_some}
use Rattle.std.specs.declared.alloc.Global.{Global}
use Rattle.std.proofs.lemmas.List.{map-append, length-map}
use Rattle.indexmap.specs.IndexMap.{IndexMap}
use Rattle.fw_facts.specs.declared.sheet.Sheet.{Sheet}
use Rattle.fw_facts.specs.declared.view.DeviceView.{DeviceView}
use Rattle.device_list.specs.declared.selector.Selector.TheVariants.{Id}
use Rattle.device_list.specs.declared.fault.ListFault.{ListFault}
use Rattle.device_list.specs.declared.fault.ListFault.TheVariants.{Duplicate, Full}
use Rattle.device_list.specs.Lists.{refused, place}
use Rattle.device_list.specs.Guids.{has, listed, places_of, sheets, with_last, IsIndexed}
use Rattle.device_list.proofs.GuidLaws.{noted_behind}

-- a list that isn't full has room for a device
pub not_full : (views : List DeviceView) (device : List ℕ) → refused views device ≡ None → length views ≤ 256 → length views < 256
not_full views device none few = by (is_some (place (Id device) views)) (length views == 256) refl none
  where
    by : (found full : Bool) → (length views == 256) ≡ full → (if found then Some (Duplicate device) else (if full then Some Full else None)) ≡ None → length views < 256
    by true full e h = grind (arith, h)
    by false true e h = grind (arith, h)
    by false false e h = grind (arith, e, few)

module _ {S : Type 0} (views after : List DeviceView) (view : DeviceView) (ids ids_after : List (List ℕ)) (guids guids_after : IndexMap (List ℕ) (Vec ℕ Global) S) (old : IsIndexed views ids guids) where
  pub indexed_same : after ≡ views → ids_after ≡ ids → ((guid : List ℕ) → listed guids_after guid ≡ listed guids guid) → IsIndexed after ids_after guids_after
  indexed_same same same_ids same_places = record {
    ids_of = same_ids ∙ old.ids_of ∙ ap (λ vs. map (λ (sheet : Sheet). sheet.device) (sheets vs)) (sym same);
    places = λ guid. same_places guid ∙ old.places guid ∙ ap (λ vs. places_of guid (sheets vs)) (sym same);
    few = subst (λ vs. length vs ≤ 256) (sym same) old.few;
  }

  pub indexed_push : length views < 256 → after ≡ views ++ view ∷ [] → ids_after ≡ ids ++ view.sheet.device ∷ []
      → ((guid : List ℕ) → listed guids_after guid ≡ with_last (has guid view.sheet) (length views) (listed guids guid)) → IsIndexed after ids_after guids_after
  indexed_push room pushed id noted =
      let more : sheets after ≡ sheets views ++ view.sheet ∷ [] = ap sheets pushed ∙ map-append (λ (v : DeviceView). v.sheet) views (view ∷ []) in
      record {
        ids_of = id ∙ ap (λ is. is ++ view.sheet.device ∷ []) old.ids_of ∙ sym (map-append (λ (sheet : Sheet). sheet.device) (sheets views) (view.sheet ∷ [])) ∙ ap (λ ss. map (λ (sheet : Sheet). sheet.device) ss) (sym more);
        places = λ guid. noted guid ∙ ap (with_last (has guid view.sheet) (length views)) (old.places guid)
            ∙ ap (λ n. with_last (has guid view.sheet) n (places_of guid (sheets views))) (sym (length-map views (λ (v : DeviceView). v.sheet)))
            ∙ noted_behind guid (sheets views) view.sheet ∙ ap (places_of guid) (sym more);
        few = subst (λ vs. length vs ≤ 256) (sym pushed) (omega (arith, room, length-append views (view ∷ [])));
      }

  -- whether or not the device was added
  pub indexed_after : (result : Result (Unit {0}) ListFault) → length views < 256
      → OnOk result (after ≡ views ++ view ∷ []) → OnOk result (ids_after ≡ ids ++ view.sheet.device ∷ [])
      → OnOk result ((guid : List ℕ) → listed guids_after guid ≡ with_last (has guid view.sheet) (length views) (listed guids guid))
      → OnErr result (after ≡ views) → OnErr result (ids_after ≡ ids) → OnErr result ((guid : List ℕ) → listed guids_after guid ≡ listed guids guid)
      → IsIndexed after ids_after guids_after
  indexed_after (Ok u) room pushed id noted same same_ids same_places = indexed_push room pushed id noted
  indexed_after (Err fault) room pushed id noted same same_ids same_places = indexed_same same same_ids same_places
