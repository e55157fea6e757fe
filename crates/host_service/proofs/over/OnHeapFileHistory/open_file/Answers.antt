use Rattle.std.proofs.Common.{◌≡◌, List, None, subst, sym}
use Rattle.history_keeper.specs.declared.row.Row.{Row}
use Rattle.host_service.proofs.OpeningLaws.{ok-so}
use Rattle.host_service.proofs.over.OnHeapFileHistory.open_file.Goals as goal

pub returns-clause-no_doubt : goal.returns-clause-no_doubt
returns-clause-no_doubt g c =
    ok-so c.new.result c.new.ensures.same
    (λ new same. subst (λ (k : g.row.K.Denot). g.K.Keeper.doubt k ≡ None) (sym same) c.in_ok-keeper.ensures.no_doubt)

pub returns-clause-no_others : goal.returns-clause-no_others
returns-clause-no_others g c =
    ok-so c.new.result c.new.ensures.same
    (λ new same rows held.
    subst (λ (k : g.row.K.Denot). (all : List Row) → g.K.Keeper.tells k all → all ≡ rows) (sym same) (c.in_ok-keeper.ensures.no_others rows held))
