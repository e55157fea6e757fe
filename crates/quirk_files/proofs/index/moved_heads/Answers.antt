use Rattle.std.proofs.Common.{ℕ, List, ◌++◌, ◌∷◌, [], map, take, Option, None, ap, sym, ◌∙◌}
use Rattle.std.proofs.lemmas.List.{map_more}
use Rattle.quirk_files.specs.Places.{moved}
use Rattle.quirk_files.proofs.index.moved_heads.Goals as goal

pub loop-head-preserved : goal.loop-head-preserved
loop-head-preserved c =
    c.in_ok-push.ensures.items ∙ ap (λ (xs : List (Option ℕ)). xs ++ c.moved.result ∷ []) c.loop-head.invariant
    ∙ ap (λ (o : Option ℕ). map (moved c.args.place c.args.before) (take c.loop-head.head-index c.args.heads.now) ++ o ∷ []) c.moved.ensures
    ∙ sym (map_more (moved c.args.place c.args.before) c.args.heads.now c.loop-head.head-index None c.loop-head-test.true)
