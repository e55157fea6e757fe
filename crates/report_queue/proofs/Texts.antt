-- JSON strings byte by byte, and the text of an object in parts.
use Rattle.std.proofs.Common.{◌≡◌, ℕ, ◌+◌, ◌<◌, arith, List, [], ◌∷◌, ◌++◌, length, take, get_or, true, false, refl, sym, ap, ◌∙◌, append_assoc}
use Rattle.std.specs.Prelude.{codes}
use Rattle.std.proofs.lemmas.List.{flat_map_more, take_more}
use Rattle.json.specs.Print.{escape_byte, escape, quoted}
use Rattle.serde_json.specs.Data.{Data}
use Rattle.serde_json.specs.Written.{compact_text, members_text}
use Rattle.history_keeper.specs.declared.row.Row.{Row}
use Rattle.report_queue.specs.Lines.{first_text, key_text, last_text, line, member_text, members, members_behind, next_text, told_first, told_last, told_next}

-- One byte more of a string.
pub escaped_more : (bytes : List ℕ) (i : ℕ) (before now next : List ℕ) → i < length bytes → now ≡ before ++ escape (take i bytes) → next ≡ now ++ escape_byte (get_or bytes i 0) → next ≡ before ++ escape (take (i + 1) bytes)
escaped_more bytes i before now next within h k =
    k ∙ ap (λ (xs : List ℕ). xs ++ escape_byte (get_or bytes i 0)) h ∙ flat_map_more escape_byte before (take i bytes) (get_or bytes i 0)
    ∙ ap (λ (xs : List ℕ). before ++ escape xs) (sym (take_more bytes i 0 within))

flat : (key value more end : List ℕ) → key ++ 58 ∷ (value ++ (more ++ end)) ≡ (((key ++ 58 ∷ []) ++ value) ++ more) ++ end
flat key value more end = simp append_assoc

-- The members behind the first.
later_text : (pairs : List (List ℕ × Data)) → members_text true (members pairs) ≡ members_behind 44 pairs ++ 125 ∷ []
unfolding key_text member_text
later_text [] = refl
later_text (pair ∷ pairs) =
    ap (λ (text : List ℕ). 44 ∷ (quoted pair.0 ++ 58 ∷ (compact_text pair.1 ++ text))) (later_text pairs)
    ∙ ap (λ (text : List ℕ). 44 ∷ text) (flat (quoted pair.0) (compact_text pair.1) (members_behind 44 pairs) (125 ∷ []))

-- All members, of which there is one.
all_text : (pair : List ℕ × Data) (pairs : List (List ℕ × Data)) → 123 ∷ members_text false (members (pair ∷ pairs)) ≡ members_behind 123 (pair ∷ pairs) ++ 125 ∷ []
unfolding key_text member_text
all_text pair pairs =
    ap (λ (text : List ℕ). 123 ∷ (quoted pair.0 ++ 58 ∷ (compact_text pair.1 ++ text))) (later_text pairs)
    ∙ ap (λ (text : List ℕ). 123 ∷ text) (flat (quoted pair.0) (compact_text pair.1) (members_behind 44 pairs) (125 ∷ []))

later-append : (pairs more : List (List ℕ × Data)) → members_behind 44 (pairs ++ more) ≡ members_behind 44 pairs ++ members_behind 44 more
later-append [] more = refl
later-append (pair ∷ pairs) more =
    ap (λ (text : List ℕ). (44 ∷ member_text pair.0 pair.1) ++ text) (later-append pairs more)
    ∙ sym (append_assoc (44 ∷ member_text pair.0 pair.1) (members_behind 44 pairs) (members_behind 44 more))

first-append : (pair : List ℕ × Data) (pairs more : List (List ℕ × Data)) → members_behind 123 (pair ∷ (pairs ++ more)) ≡ members_behind 123 (pair ∷ pairs) ++ members_behind 44 more
first-append pair pairs more =
    ap (λ (text : List ℕ). (123 ∷ member_text pair.0 pair.1) ++ text) (later-append pairs more)
    ∙ sym (append_assoc (123 ∷ member_text pair.0 pair.1) (members_behind 44 pairs) (members_behind 44 more))

ends : (first next last end new_line : List ℕ) → (((first ++ next) ++ last) ++ end) ++ new_line ≡ (first ++ next) ++ (last ++ (end ++ new_line))
ends first next last end new_line = simp append_assoc

-- The text of an object whose members come in three parts, and a newline.
in_parts : (first next last : List (List ℕ × Data)) → 0 < length first → (123 ∷ members_text false (members (first ++ next ++ last))) ++ codes "\n"
    ≡ members_behind 123 first ++ members_behind 44 next ++ (members_behind 44 last ++ codes "}\n")
in_parts [] next last some = absurd (omega arith)
in_parts (pair ∷ pairs) next last some =
    ap (λ (text : List ℕ). text ++ codes "\n") (all_text pair ((pairs ++ next) ++ last))
    ∙ ap (λ (text : List ℕ). (text ++ 125 ∷ []) ++ codes "\n")
    (first-append pair (pairs ++ next) last ∙ ap (λ (text : List ℕ). text ++ members_behind 44 last) (first-append pair pairs next))
    ∙ ends (members_behind 123 (pair ∷ pairs)) (members_behind 44 next) (members_behind 44 last) (125 ∷ []) (codes "\n")

pub line-parts : (row : Row) → line row ≡ first_text row ++ next_text row ++ last_text row
unfolding line first_text next_text last_text
line-parts row = in_parts (told_first row) (told_next row) (told_last row) (omega arith)

-- A text that three calls put together.
pub three_parts : (first next last whole a b c d : List ℕ) → a ≡ [] → b ≡ a ++ first → c ≡ b ++ next → d ≡ c ++ last → whole ≡ first ++ next ++ last → d ≡ whole
three_parts first next last whole a b c d h i j k w =
    k ∙ ap (λ (text : List ℕ). text ++ last) (j ∙ ap (λ (text : List ℕ). text ++ next) (i ∙ ap (λ (text : List ℕ). text ++ first) h)) ∙ sym w
