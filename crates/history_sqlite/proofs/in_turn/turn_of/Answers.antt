use Rattle.std.proofs.Common.{◌∷◌, [], ◌++◌, List, Option, Some, ap, ◌∙◌, map}
use Rattle.std.proofs.lemmas.List.{map-append}
use Rattle.history_keeper.specs.declared.row.Row.{Row}
use Rattle.history_sqlite.proofs.in_turn.turn_of.Goals as goal

pub returns-in-Ok-clause-read : goal.returns-in-Ok-clause-read
returns-in-Ok-clause-read c is =
    ap (λ (rows : List Row). map Some rows) c.in-Ok.ensures.put ∙ map-append Some c.args.read.now.items (c.in-Some.row ∷ [])
    ∙ ap (λ (found : Option Row). map Some c.args.read.now.items ++ found ∷ []) c.in-Some.ensures
