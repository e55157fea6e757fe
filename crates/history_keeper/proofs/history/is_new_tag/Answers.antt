use Rattle.std.proofs.Common.{Bor, List, ℕ, not, sym, ap, ◌∙◌}
use Rattle.std.specs.Str.{bytes_eq}
use Rattle.history_keeper.proofs.Following.{list_any-map}
use Rattle.history_keeper.proofs.history.is_new_tag.Goals as goal

pub returns-clause-fresh : goal.returns-clause-fresh
returns-clause-fresh c =
    c.in_ok-fresh.ensures.added ∙ ap not (sym (list_any-map (λ (tag : Bor (List ℕ)). tag.now) (bytes_eq c.args.tag.now) c.args.tags.now.keys))
