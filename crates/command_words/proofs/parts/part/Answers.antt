use Rattle.std.proofs.Common.{Bor, List, ℕ}
use Rattle.command_words.proofs.Mapped.{front_of}
use Rattle.command_words.proofs.parts.part.Goals as goal

pub returns-clause-before : goal.returns-clause-before
returns-clause-before c =
    front_of (λ (word : Bor (List ℕ)). word.now) c.args.words.now c.split_at.result.0.now c.end_place-at.result _ c.split_at.ensures.front c.end_place-at.ensures.place
