use Rattle.std.proofs.Common.{Bor, List, ℕ, sym, ◌∙◌}
use Rattle.command_words.proofs.Made.{by_joined}
use Rattle.command_words.proofs.Mapped.{first_and_rest}
use Rattle.command_words.proofs.make.make_from.Goals as goal

pub returns-then-starts_with : goal.returns-then-starts_with
returns-then-starts_with c =
    by_joined _ _ _ _ _ c.number_joined.result.now c.counted.result
    (first_and_rest (λ (word : Bor (List ℕ)). word.now) c.args.rest.now _ c.in-len1-up.len_at_least)
    (sym c.starts_with.ensures.value ∙ c.if-starts_with.true) c.number_joined.ensures c.counted.ensures
