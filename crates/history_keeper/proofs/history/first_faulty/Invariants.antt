use Rattle.std.proofs.Common.{◌≡◌, map, take}
use Rattle.history_keeper.specs.Histories.{IsHistory, retried_of, tags_of, waiting_of}
use Rattle.history_keeper.proofs.history.first_faulty.Given as goal

abbrev pub invariant-loop-at : goal.invariant-loop-at
invariant-loop-at l =
    record { history : IsHistory (take l.at l.rows); tags : map (λ tag. tag.now) l.tags.keys ≡ tags_of (take l.at l.rows); waiting : l.waiting.keys ≡ waiting_of (take l.at l.rows); retried : l.retried.keys ≡ retried_of (take l.at l.rows) }
