use Rattle.std.proofs.Common.{◌≡◌, List, ℕ, Bool, true, false, Result, Ok, Err, refl, sym, ◌∙◌}
use Rattle.std.specs.Prelude.{MatchResult}
use Rattle.std.specs.Result.{is_ok}
use Rattle.std.specs.Str.{IsUtf8, is_utf8}
use Rattle.std.proofs.lemmas.Str.{is_utf8-from_IsUtf8, IsUtf8-from_is_utf8}
use Rattle.command_words.proofs.text.is_utf8.Goals as goal

-- a text is UTF-8 exactly where it is read as such
utf8_read : {T E : Type 0} (bytes : List ℕ) (r : Result T E) (P : T → Type 0) (Q : E → Type 0)
    → MatchResult r (λ s. P s × IsUtf8 bytes) (λ e. (IsUtf8 bytes → ⊥) × Q e) → is_ok r ≡ is_utf8 bytes
utf8_read bytes (Ok s) P Q h = sym (is_utf8-from_IsUtf8 bytes h.1)
utf8_read bytes (Err e) P Q h = not_read (is_utf8 bytes) refl where
  not_read : (b : Bool) → is_utf8 bytes ≡ b → false ≡ b
  not_read true is = absurd (h.0 (IsUtf8-from_is_utf8 bytes is))
  not_read false is = refl

pub returns : goal.returns
returns c = c.is_ok.ensures.value ∙ utf8_read c.args.bytes.now c.from_utf8.result _ _ c.from_utf8.ensures.cases
