use Rattle.std.proofs.Common.{ℕ, ◌≡◌, List, Option, IsSome, ◌↔◌, length, sym, ap, subst, ◌∙◌}
use Rattle.std.specs.Result.{result_ok}
use Rattle.std.specs.List.{AllPass}
use Rattle.hex.specs.Hex.{decode_sized}
use Rattle.fw_base.specs.Digests.{is_lower_digit}
use Rattle.fw_base.proofs.Digits.{digest_found, digest_missed}
use Rattle.fw_base.proofs.digest.read_digest.Goals as goal

pub returns-then-all_lower_digits-clause-found : goal.returns-then-all_lower_digits-clause-found
returns-then-all_lower_digits-clause-found c =
    let text : List ℕ = c.args.bytes.now in
    let is : result_ok (decode_sized text 32) ≡ c.ok.result = sym (c.ok.ensures.value ∙ ap result_ok c.from_hex.ensures) in
    let P : Option (List ℕ) → Type 0 = λ o. IsSome o ↔ ((length text ≡ 64) × AllPass is_lower_digit text) in
    subst P is (digest_found text (sym c.if-all_lower_digits.ensures))

pub returns-else-all_lower_digits-clause-found : goal.returns-else-all_lower_digits-clause-found
returns-else-all_lower_digits-clause-found c =
    (λ h. absurd (cc), λ h. absurd (digest_missed c.args.bytes.now (sym c.if-all_lower_digits.ensures) h))
