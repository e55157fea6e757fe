-- Texts that are put one behind another.
use Rattle.std.proofs.Common.{◌≡◌, List, ◌++◌, OnOk, ap, ◌∙◌}
use Rattle.std.proofs.lemmas.List.{append_assoc}
use Rattle.std.specs.Prelude.{Result, Ok, Err, if◌then◌else◌}
use Rattle.std.specs.Result.{is_ok}

pub three_and_end : {X : Type 0} (old one two three new a b c d e f end : List X)
    → one ≡ old ++ a ++ b → two ≡ one ++ c ++ d → three ≡ two ++ e ++ f → new ≡ three ++ end
    → new ≡ old ++ (a ++ b ++ c ++ d ++ e ++ f ++ end)
three_and_end old one two three new a b c d e f end h1 h2 h3 h4 =
    let s1 : old ++ a ++ b ≡ old ++ (a ++ b) = append_assoc old a b in
    let s2 : old ++ a ++ b ++ c ≡ old ++ (a ++ b ++ c) = ap (λ x. x ++ c) s1 ∙ append_assoc old (a ++ b) c in
    let s3 : old ++ a ++ b ++ c ++ d ≡ old ++ (a ++ b ++ c ++ d) = ap (λ x. x ++ d) s2 ∙ append_assoc old (a ++ b ++ c) d in
    let s4 : old ++ a ++ b ++ c ++ d ++ e ≡ old ++ (a ++ b ++ c ++ d ++ e) = ap (λ x. x ++ e) s3 ∙ append_assoc old (a ++ b ++ c ++ d) e in
    let s5 : old ++ a ++ b ++ c ++ d ++ e ++ f ≡ old ++ (a ++ b ++ c ++ d ++ e ++ f) = ap (λ x. x ++ f) s4 ∙ append_assoc old (a ++ b ++ c ++ d ++ e) f in
    rw (h4, h3, h2, h1) (ap (λ x. x ++ end) s5 ∙ append_assoc old (a ++ b ++ c ++ d ++ e ++ f) end)

-- What a call leaves that put a text, or nothing where it failed.
pub put_on_ok : {T E X : Type 0} (r : Result T E) (new put old : X) → new ≡ (if is_ok r then put else old) → OnOk r (new ≡ put)
put_on_ok (Ok _) new put old h = h
put_on_ok (Err _) new put old h = tt
