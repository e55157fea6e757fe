-- The data of a tree is what `serde_json` makes of it where each number is in range, and else it makes nothing.
use Rattle.std.specs.Prelude.{◌≡◌, Bool, true, false, ◌&&◌, Option, Some, None, is_some, option_map, option_and_then, if◌then◌else◌}
use Rattle.std.proofs.Common.{refl, ap, ap₂, ◌∙◌}
use Rattle.json.specs.Json as json
use Rattle.serde_json.specs.Data.{Num, Data, number, array, object, Items, item, Members, no_members, put}
use Rattle.serde_json.specs.Read.{number_of, of_json, of_items, of_members}
use Rattle.json_values.specs.Trees.{number_or_null, data_of, data_of_each, members_of, is_in_range, are_in_range, members_are_in_range}

mapped : {A B : Type 0} (f : A → B) (b : Bool) (a : A) → option_map f (if b then Some a else None) ≡ (if b then Some (f a) else None)
mapped f true a = refl
mapped f false a = refl

numeral : (o : Option Num) → option_map number o ≡ (if is_some o then Some (number_or_null o) else None)
numeral None = refl
numeral (Some n) = refl

one_more : (b c : Bool) (d : Data) (ds : Items) → option_and_then (λ x. option_map (item x) (if c then Some ds else None)) (if b then Some d else None) ≡ (if b && c then Some (item d ds) else None)
one_more true true d ds = refl
one_more true false d ds = refl
one_more false true d ds = refl
one_more false false d ds = refl

behind : (b c : Bool) (d : Data) (ms : Members) (next : Data → Option Members) → next d ≡ (if c then Some ms else None)
    → option_and_then next (if b then Some d else None) ≡ (if b && c then Some ms else None)
behind true true d ms next e = e
behind true false d ms next e = e
behind false true d ms next e = refl
behind false false d ms next e = refl

mutual
  pub of_json-in_range : (j : json.Json) → of_json j ≡ (if is_in_range j then Some (data_of j) else None)
  of_json-in_range json.null = refl
  of_json-in_range (json.boolean b) = refl
  of_json-in_range (json.number s) = numeral (number_of s)
  of_json-in_range (json.string s) = refl
  of_json-in_range (json.array js) = ap (option_map array) (of_items-in_range js) ∙ mapped array (are_in_range js) (data_of_each js)
  of_json-in_range (json.object ms) = ap (option_map object) (of_members-in_range ms no_members) ∙ mapped object (members_are_in_range ms) (members_of ms no_members)

  of_items-in_range : (js : json.Items) → of_items js ≡ (if are_in_range js then Some (data_of_each js) else None)
  of_items-in_range json.no_items = refl
  of_items-in_range (json.item j js) =
      ap₂ (λ o p. option_and_then (λ d. option_map (item d) p) o) (of_json-in_range j) (of_items-in_range js)
      ∙ one_more (is_in_range j) (are_in_range js) (data_of j) (data_of_each js)

  of_members-in_range : (ms : json.Members) (found : Members) → of_members ms found ≡ (if members_are_in_range ms then Some (members_of ms found) else None)
  of_members-in_range json.no_members found = refl
  of_members-in_range (json.member k j ms) found =
      ap (λ o. option_and_then (λ d. of_members ms (put k d found)) o) (of_json-in_range j)
      ∙ behind (is_in_range j) (members_are_in_range ms) (data_of j) (members_of ms (put k (data_of j) found)) (λ d. of_members ms (put k d found)) (of_members-in_range ms (put k (data_of j) found))
