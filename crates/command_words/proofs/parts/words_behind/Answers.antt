use Rattle.std.proofs.Common.{◌+◌, Bor, List, ℕ, refl, arith}
use Rattle.command_words.proofs.Mapped.{back_none, back_of}
use Rattle.command_words.proofs.parts.words_behind.Goals as goal

pub returns-then-at-words : goal.returns-then-at-words
returns-then-at-words c = back_none (λ (word : Bor (List ℕ)). word.now) c.args.words.now (c.args.at + 1) (omega arith)

pub returns : goal.returns
returns c =
    back_of (λ (word : Bor (List ℕ)). word.now) c.args.words.now c.split_at.result.1.now (c.args.at + 1) (c.args.at + 1) c.split_at.ensures.back refl
