use Rattle.std.proofs.Common.{◌≡◌, ◌≤◌, Bor, List, ℕ, length, map, arith}
use Rattle.std.proofs.lemmas.List.{length-map}
use Rattle.command_words.proofs.Mapped.{some_word}
use Rattle.command_words.proofs.values.is_none.Goals as goal

pub returns-in-len1-up : goal.returns-in-len1-up
returns-in-len1-up c =
    let f : Bor (List ℕ) → List ℕ = λ word. word.now in
    let same : length (map f c.args.before.now) ≡ length c.args.before.now = length-map c.args.before.now f in
    let some : 1 ≤ length (map f c.args.before.now) = omega arith in
    some_word (map f c.args.before.now) (map f c.args.behind.now) some
