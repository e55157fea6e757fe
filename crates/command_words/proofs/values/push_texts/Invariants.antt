use Rattle.std.proofs.Common.{◌≡◌, ◌++◌, map, take}
use Rattle.command_words.proofs.values.push_texts.Given as goal

abbrev pub invariant-loop-word : goal.invariant-loop-word
invariant-loop-word l = l.texts.items ≡ l.fn.texts.items ++ map (λ word. word.now) (take l.word-index l.words)
