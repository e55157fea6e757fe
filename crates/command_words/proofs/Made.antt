-- The option of `make`, and what stands behind it.
use Rattle.std.proofs.Common.{◌≡◌, ℕ, Bool, true, false, List, ◌∷◌, drop, Option, if◌then◌else◌, sym, ap, ◌∙◌}
use Rattle.std.specs.Prelude.{option_and_then}
use Rattle.command_words.specs.declared.command.Command.{Command}
use Rattle.command_words.specs.Commands.{clients_by, clients_from, clients_next, is_joined, make_by}

-- the option is one word with its number
pub by_joined : (behind front words more : List (List ℕ)) (option number : List ℕ) (r : Option Command) → words ≡ option ∷ more
    → is_joined option ≡ true → number ≡ drop 10 option → r ≡ option_and_then (make_by behind) (clients_by front number more)
    → r ≡ option_and_then (make_by behind) (clients_from front words)
by_joined behind front words more option number r are joined is told =
    chosen (is_joined option) joined ∙ ap (λ (all : List (List ℕ)). option_and_then (make_by behind) (clients_from front all)) (sym are) where
      chosen : (b : Bool) → b ≡ true
          → r ≡ option_and_then (make_by behind) (if b then clients_by front (drop 10 option) more else clients_next front more)
      chosen true e = told ∙ ap (λ (n : List ℕ). option_and_then (make_by behind) (clients_by front n more)) is
      chosen false e = (cc)

-- the number is the next word
pub by_next : (behind front words more : List (List ℕ)) (number : List ℕ) (r : Option Command) → words ≡ number ∷ more
    → r ≡ option_and_then (make_by behind) (clients_by front number more) → r ≡ option_and_then (make_by behind) (clients_next front words)
by_next behind front words more number r are told =
    told ∙ ap (λ (all : List (List ℕ)). option_and_then (make_by behind) (clients_next front all)) (sym are)
