-- Components with few requirements, one more at a time.
use Rattle.std.proofs.Common.{◌≡◌, ◌≤◌, List, [], ◌∷◌, ◌++◌, length, All}
use Rattle.std.proofs.lemmas.List.Elements.{All-push}
use Rattle.fw_facts.specs.declared.release.Component.{Component}

pub one_more : (all before : List Component) (c : Component) → all ≡ before ++ c ∷ [] → All (λ r. length r.requirements ≤ 64) before → length c.requirements ≤ 64 → All (λ r. length r.requirements ≤ 64) all
one_more all before c is few new = rw is (All-push (λ r. length r.requirements ≤ 64) before c few new)
