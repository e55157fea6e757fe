-- The value of a whole text.
use Rattle.std.specs.Prelude.{◌≡◌, ℕ, List, [], ◌∷◌, Bool, true, false, Option, Some, None, is_some, option_and_then, MatchOption, IfOk, IsErrOf, OnErr, if◌then◌else◌}
use Rattle.std.proofs.Common.{Result, Ok, Err, sym, ap, ◌∙◌}
use Rattle.json.specs.Token.{Token}
use Rattle.json.specs.Lex.{tokens}
use Rattle.json.specs.Json as json
use Rattle.json.specs.Value.{value_view}
use Rattle.serde_json.specs.Data.{Data}
use Rattle.serde_json.specs.Read.{of_json, read}
use Rattle.json_values.specs.Trees.{Tree, data_of, is_in_range, view}
use Rattle.json_values.proofs.InRange.{of_json-in_range}

abbrev whole : Option (json.Json × List Token) → Option Data
whole o = option_and_then of_json (option_and_then (λ p. json.if_last p.0 p.1) o)

pub read_whole : (text : List ℕ) (j : json.Json) → json.value 127 (tokens text) ≡ Some (j, []) → is_in_range j ≡ true → read text ≡ Some (data_of j)
read_whole text j e fits = ap whole e ∙ of_json-in_range j ∙ ap (λ (b : Bool). if b then Some (data_of j) else None) fits

pub read_out_of_range : (text : List ℕ) (j : json.Json) → json.value 127 (tokens text) ≡ Some (j, []) → is_in_range j ≡ false → read text ≡ None
read_out_of_range text j e fits = ap whole e ∙ of_json-in_range j ∙ ap (λ (b : Bool). if b then Some (data_of j) else None) fits

pub read_and_more : (text : List ℕ) (j : json.Json) (t : Token) (ts : List Token) → json.value 127 (tokens text) ≡ Some (j, t ∷ ts) → read text ≡ None
read_and_more text j t ts e = ap whole e

pub read_nothing : (text : List ℕ) → json.value 127 (tokens text) ≡ None → read text ≡ None
read_nothing text e = ap whole e

-- where no token follows, the tokens are at their end
pub at_end : {A : Type 0} (token : A → Token) (next : Option A) (old new : List Token) → is_some next ≡ false → MatchOption next ((old ≡ []) × (new ≡ [])) (λ t. old ≡ token t ∷ new) → old ≡ []
at_end token None old new e h = h.0
at_end token (Some t) old new e h = (cc)

pub whole_value : (text : List ℕ) (v : Tree) (old new : List Token) → old ≡ tokens text → json.value 127 old ≡ Some (value_view v, new) → new ≡ [] → json.value 127 (tokens text) ≡ Some (value_view v, [])
whole_value text v old new of_text is end = ap (json.value 127) (sym of_text) ∙ is ∙ ap (λ ts. Some (value_view v, ts)) end

-- a whole value, of which the numbers are looked at last
pub found_whole : {E : Type 0} (text : List ℕ) (v : Tree) (r : Result Tree E) → json.value 127 (tokens text) ≡ Some (value_view v, [])
    → IfOk r (λ same. (same ≡ v) × (is_in_range (value_view v) ≡ true)) → IfOk r (λ w. read text ≡ Some (view w))
found_whole text v (Ok w) e h = read_whole text (value_view v) e h.1 ∙ ap (λ x. Some (view x)) (sym h.0)
found_whole text v (Err f) e h = h

pub refused_whole : {E : Type 0} (text : List ℕ) (v : Tree) (r : Result Tree E) (f : E) → json.value 127 (tokens text) ≡ Some (value_view v, [])
    → OnErr r (is_in_range (value_view v) ≡ false) → IsErrOf r f → read text ≡ None
refused_whole text v (Ok w) f e h is = (cc)
refused_whole text v (Err g) f e h is = read_out_of_range text (value_view v) e h
