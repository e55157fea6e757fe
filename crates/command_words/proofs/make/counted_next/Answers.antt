use Rattle.std.proofs.Common.{Bor, List, ℕ}
use Rattle.command_words.proofs.Made.{by_next}
use Rattle.command_words.proofs.Mapped.{first_and_rest}
use Rattle.command_words.proofs.make.counted_next.Goals as goal

pub returns-in-len1-up : goal.returns-in-len1-up
returns-in-len1-up c =
    by_next _ _ _ _ _ c.counted.result (first_and_rest (λ (word : Bor (List ℕ)). word.now) c.args.rest.now _ c.in-len1-up.len_at_least) c.counted.ensures
