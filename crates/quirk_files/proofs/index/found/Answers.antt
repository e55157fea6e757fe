use Rattle.std.proofs.Common.{◌≡◌, ◌∙◌, ◌<◌, ◌++◌, ◌∷◌, [], Bor, List, ℕ, map, filter, take, reverse, get_or, Option, Some, None, ap, sym, subst, arith}
use Rattle.std.specs.Str.{bytes_eq}
use Rattle.std.proofs.lemmas.List.{length-map}
use Rattle.indexmap.specs.IndexMap.{get}
use Rattle.quirk_files.specs.declared.quirk.Quirk.{Quirk}
use Rattle.quirk_files.specs.Places.{HeadsAre, latest, moved}
use Rattle.quirk_files.specs.Sheets.{is_for}
use Rattle.quirk_files.proofs.Indexing.{heads_first, place_found, place_below, heads_step, found_step, found_all, found_none}
use Rattle.quirk_files.proofs.index.found.Goals as goal

pub loop-place-init : goal.loop-place-init
loop-place-init c = record {
  within = omega arith;
  heads_are = heads_first c.args.guids.now c.args.quirks.now (get bytes_eq c.args.last.now) c.args.before.now c.in_ok-heads.heads.items c.requires c.in_ok-heads.ensures;
  rest = found_none (is_for c.args.guids.now) c.args.quirks.now c.new-found.result.items c.new-found.ensures.items;
}

pub quirk_at-requires : goal.quirk_at-requires
quirk_at-requires c =
    let below : c.in-Some.place < c.loop-place.at = place_below c.args.guids.now c.args.quirks.now c.loop-place.at c.in-Some.place c.loop-place.heads.items
    c.loop-place.invariant.heads_are (ap latest (sym c.deref.ensures.value) ∙ sym c.latest.ensures ∙ c.in-Some.is) in omega arith

pub before_at-requires : goal.before_at-requires
before_at-requires c =
    let below : c.in-Some.place < c.loop-place.at = place_below c.args.guids.now c.args.quirks.now c.loop-place.at c.in-Some.place c.loop-place.heads.items
    c.loop-place.invariant.heads_are (ap latest (sym c.deref.ensures.value) ∙ sym c.latest.ensures ∙ c.in-Some.is) in
    let long = length-map c.args.quirks.now (λ (quirk : Quirk). quirk.group) in
    omega (arith, c.requires.long)

pub loop-place-smaller : goal.loop-place-smaller
loop-place-smaller c =
    place_below c.args.guids.now c.args.quirks.now c.loop-place.at c.in-Some.place c.loop-place.heads.items
    c.loop-place.invariant.heads_are (ap latest (sym c.deref.ensures.value) ∙ sym c.latest.ensures ∙ c.in-Some.is)

pub loop-place-preserved : goal.loop-place-preserved
loop-place-preserved c =
    let last_head : latest c.loop-place.heads.items ≡ Some c.in-Some.place = ap latest (sym c.deref.ensures.value) ∙ sym c.latest.ensures ∙ c.in-Some.is in
    let below : c.in-Some.place < c.loop-place.at = place_below c.args.guids.now c.args.quirks.now c.loop-place.at c.in-Some.place c.loop-place.heads.items
    c.loop-place.invariant.heads_are last_head in
    let moved_on : c.in_ok-heads-2.heads.items ≡ map (moved c.in-Some.place (get_or c.args.before.now c.in-Some.place None)) c.loop-place.heads.items =
    c.in_ok-heads-2.ensures ∙ ap (λ (o : Option ℕ). map (moved c.in-Some.place o) c.deref-in-Some.result.now) c.before_at.ensures
    ∙ ap (map (moved c.in-Some.place (get_or c.args.before.now c.in-Some.place None))) c.deref-in-Some.ensures.value in
    let one_found : filter (is_for c.args.guids.now) (take c.loop-place.at c.args.quirks.now) ≡ filter (is_for c.args.guids.now) (take c.in-Some.place c.args.quirks.now) ++ c.quirk_at.result.now ∷ [] =
    place_found c.args.guids.now c.args.quirks.now c.loop-place.at c.in-Some.place c.loop-place.heads.items c.quirk_at.result.now c.loop-place.invariant.within
    c.loop-place.invariant.heads_are last_head c.quirk_at.ensures in
    record {
      within = omega (arith, c.loop-place.invariant.within);
      heads_are = subst (HeadsAre (map (λ (quirk : Quirk). quirk.group) c.args.quirks.now) c.in-Some.place c.args.guids.now) (sym moved_on)
          (heads_step c.args.guids.now c.args.quirks.now c.loop-place.at c.in-Some.place c.loop-place.heads.items (get bytes_eq c.args.last.now) c.args.before.now
          c.loop-place.invariant.within c.requires c.loop-place.invariant.heads_are last_head);
      rest = found_step (is_for c.args.guids.now) c.args.quirks.now c.loop-place.at c.in-Some.place c.loop-place.found.items c.quirk_at.result c.loop-place.invariant.rest one_found
          ∙ ap (λ (f : List (Bor Quirk)). filter (is_for c.args.guids.now) (take c.in-Some.place c.args.quirks.now) ++ map (λ (q : Bor Quirk). q.now) (reverse f)) (sym c.in_ok-push.ensures.items);
    }

pub returns : goal.returns
returns c =
    found_all c.args.guids.now c.args.quirks.now c.loop-place.at c.loop-place.heads.items _ c.loop-place.invariant.within c.loop-place.invariant.heads_are
    (ap latest (sym c.deref.ensures.value) ∙ sym c.latest.ensures ∙ c.in_default.is) c.loop-place.invariant.rest
