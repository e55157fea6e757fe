use Rattle.std.proofs.Common.{ℕ, List, ◌++◌, ◌∷◌, [], map, take, Option, ap, sym, ◌∙◌}
use Rattle.std.specs.Str.{bytes_eq}
use Rattle.std.proofs.lemmas.List.{map_more}
use Rattle.indexmap.specs.IndexMap.{get}
use Rattle.quirk_files.proofs.index.heads.Goals as goal

pub loop-guid-preserved : goal.loop-guid-preserved
loop-guid-preserved c =
    c.in_ok-push.ensures.items ∙ ap (λ (xs : List (Option ℕ)). xs ++ c.copied.result ∷ []) c.loop-guid.invariant
    ∙ ap (λ (o : Option ℕ). map (get bytes_eq c.args.last.now) (take c.loop-guid.guid-index c.args.guids.now) ++ o ∷ [])
    (c.copied.ensures ∙ c.get.ensures.value ∙ ap (λ (g : List ℕ). get bytes_eq c.args.last.now g) c.guid-item.is)
    ∙ sym (map_more (get bytes_eq c.args.last.now) c.args.guids.now c.loop-guid.guid-index c.guid-item.result c.loop-guid-test.true)
