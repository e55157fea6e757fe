-- What is found in a tree is found in its data.
use Rattle.std.specs.Prelude.{◌≡◌, ℕ, List, [], ◌∷◌, Bool, true, false, cond, Option, Some, None, is_some, option_map, option_and_then}
use Rattle.std.proofs.Common.{bytes_eq, true≢false, refl, sym, ap, ◌∙◌, subst}
use Rattle.std.proofs.lemmas.Slice.Eq.{bytes_eq-Decides}
use Rattle.std.specs.Borrow.{Bor}
use Rattle.json.specs.Json as json
use Rattle.json.specs.Find as find
use Rattle.json.specs.Value.{value_view, items_view as trees_view}
use Rattle.serde_json.specs.Data.{Num, Data, item, Members, no_members, put}
use Rattle.serde_json.specs.Find.{as_array, as_bool, as_number, as_object, as_str, as_u64, get, get_member}
use Rattle.serde_json.specs.Read.{number_of}
use Rattle.serde_json.proofs.Views.{get_member-put, get_member-put_other}
use Rattle.json_values.specs.Trees.{number_or_null, data_of, data_of_each, members_of, Tree, view, items_view}

-- ---- members

abbrev or_else : Option Data → Option Data → Option Data
or_else None earlier = earlier
or_else (Some d) earlier = Some d

put_found : (b : Bool) (k l : List ℕ) (j : json.Json) (found : Members) → bytes_eq l k ≡ b
    → get_member k (put l (data_of j) found) ≡ or_else (option_map data_of (cond b (Some j) None)) (get_member k found)
put_found true k l j found e =
    let same : l ≡ k = (bytes_eq-Decides l k).0 e in
    subst (λ x. get_member k (put x (data_of j) found) ≡ Some (data_of j)) (sym same) (get_member-put k (data_of j) found)
put_found false k l j found e =
    get_member-put_other k l (data_of j) found (λ (same : k ≡ l). true≢false (sym ((bytes_eq-Decides l k).1 (sym same)) ∙ e))

turn : (later : Option json.Json) (k l : List ℕ) (j : json.Json) (found : Members)
    → or_else (option_map data_of later) (get_member k (put l (data_of j) found)) ≡ or_else (option_map data_of (find.later_or later (cond (bytes_eq l k) (Some j) None))) (get_member k found)
turn None k l j found = put_found (bytes_eq l k) k l j found refl
turn (Some i) k l j found = refl

member_of : (k : List ℕ) (ms : json.Members) (found : Members) → get_member k (members_of ms found) ≡ or_else (option_map data_of (find.get_member k ms)) (get_member k found)
member_of k json.no_members found = refl
member_of k (json.member l j ms) found = member_of k ms (put l (data_of j) found) ∙ turn (find.get_member k ms) k l j found

alone : (o : Option json.Json) → or_else (option_map data_of o) None ≡ option_map data_of o
alone None = refl
alone (Some j) = refl

no_member : (k : List ℕ) (o : Option Num) → get k (number_or_null o) ≡ None
no_member k None = refl
no_member k (Some n) = refl

get_data : (k : List ℕ) (j : json.Json) → get k (data_of j) ≡ option_map data_of (find.get k j)
get_data k json.null = refl
get_data k (json.boolean b) = refl
get_data k (json.number s) = no_member k (number_of s)
get_data k (json.string s) = refl
get_data k (json.array js) = refl
get_data k (json.object ms) = member_of k ms no_members ∙ alone (find.get_member k ms)

behind_reference : (o : Option (Bor Tree)) → option_map (λ x. view x.now) o ≡ option_map data_of (option_map (λ x. value_view x.now) o)
behind_reference None = refl
behind_reference (Some x) = refl

pub member_found : (k : List ℕ) (value : Tree) (o : Option (Bor Tree)) → option_map (λ x. value_view x.now) o ≡ find.get k (value_view value)
    → option_map (λ x. view x.now) o ≡ get k (view value)
member_found k value o e = behind_reference o ∙ ap (option_map data_of) e ∙ sym (get_data k (value_view value))

-- ---- kinds

no_bool : (o : Option Num) → as_bool (number_or_null o) ≡ None
no_bool None = refl
no_bool (Some n) = refl

bool_data : (j : json.Json) → as_bool (data_of j) ≡ find.as_bool j
bool_data json.null = refl
bool_data (json.boolean b) = refl
bool_data (json.number s) = no_bool (number_of s)
bool_data (json.string s) = refl
bool_data (json.array js) = refl
bool_data (json.object ms) = refl

pub bool_found : (value : Tree) (o : Option Bool) → o ≡ find.as_bool (value_view value) → o ≡ as_bool (view value)
bool_found value o e = e ∙ sym (bool_data (value_view value))

no_text : (o : Option Num) → as_str (number_or_null o) ≡ None
no_text None = refl
no_text (Some n) = refl

text_data : (j : json.Json) → as_str (data_of j) ≡ find.as_str j
text_data json.null = refl
text_data (json.boolean b) = refl
text_data (json.number s) = no_text (number_of s)
text_data (json.string s) = refl
text_data (json.array js) = refl
text_data (json.object ms) = refl

pub text_found : (value : Tree) (o : Option (Bor (List ℕ))) → option_map (λ s. s.now) o ≡ find.as_str (value_view value) → option_map (λ s. s.now) o ≡ as_str (view value)
text_found value o e = e ∙ sym (text_data (value_view value))

no_array : (o : Option Num) → as_array (number_or_null o) ≡ None
no_array None = refl
no_array (Some n) = refl

array_data : (j : json.Json) → as_array (data_of j) ≡ option_map data_of_each (find.as_array j)
array_data json.null = refl
array_data (json.boolean b) = refl
array_data (json.number s) = no_array (number_of s)
array_data (json.string s) = refl
array_data (json.array js) = refl
array_data (json.object ms) = refl

each_view : (vs : List Tree) → data_of_each (trees_view vs) ≡ items_view vs
each_view [] = refl
each_view (v ∷ vs) = ap (item (view v)) (each_view vs)

pub items_found : (value : Tree) (vs : List Tree) → Some (trees_view vs) ≡ find.as_array (value_view value) → Some (items_view vs) ≡ as_array (view value)
items_found value vs e = ap Some (sym (each_view vs)) ∙ ap (option_map data_of_each) e ∙ sym (array_data (value_view value))

pub items_missing : (value : Tree) → None ≡ find.as_array (value_view value) → None ≡ as_array (view value)
items_missing value e = ap (option_map data_of_each) e ∙ sym (array_data (value_view value))

no_object : (o : Option Num) → as_object (number_or_null o) ≡ None
no_object None = refl
no_object (Some n) = refl

object_data : (j : json.Json) → as_object (data_of j) ≡ option_map (λ ms. members_of ms no_members) (find.as_object j)
object_data json.null = refl
object_data (json.boolean b) = refl
object_data (json.number s) = no_object (number_of s)
object_data (json.string s) = refl
object_data (json.array js) = refl
object_data (json.object ms) = refl

pub members_found : (value : Tree) (ms : json.Members) (found : Members) → Some ms ≡ find.as_object (value_view value) → found ≡ members_of ms no_members → Some found ≡ as_object (view value)
members_found value ms found e is = ap Some is ∙ ap (option_map (λ ms. members_of ms no_members)) e ∙ sym (object_data (value_view value))

pub members_missing : (value : Tree) → None ≡ find.as_object (value_view value) → None ≡ as_object (view value)
members_missing value e = ap (option_map (λ ms. members_of ms no_members)) e ∙ sym (object_data (value_view value))

still_some : {A B : Type 0} (f : A → B) (o : Option A) → is_some (option_map f o) ≡ is_some o
still_some f None = refl
still_some f (Some a) = refl

pub object_found : {A : Type 0} (value : Tree) (f : A → json.Members) (o : Option A) → option_map f o ≡ find.as_object (value_view value) → is_some o ≡ is_some (as_object (view value))
object_found value f o e =
    sym (still_some f o) ∙ ap is_some e ∙ sym (still_some (λ ms. members_of ms no_members) (find.as_object (value_view value)))
    ∙ ap is_some (sym (object_data (value_view value)))

-- ---- numbers

its_number : (o : Option Num) → as_number (number_or_null o) ≡ o
its_number None = refl
its_number (Some n) = refl

number_data : (j : json.Json) → as_number (data_of j) ≡ option_and_then number_of (find.as_number j)
number_data json.null = refl
number_data (json.boolean b) = refl
number_data (json.number s) = its_number (number_of s)
number_data (json.string s) = refl
number_data (json.array js) = refl
number_data (json.object ms) = refl

pub number_found : (value : Tree) (s : List ℕ) (n : Option ℕ) → Some s ≡ find.as_number (value_view value) → n ≡ option_and_then as_u64 (number_of s) → n ≡ option_and_then as_u64 (as_number (view value))
number_found value s n e is = is ∙ ap (option_and_then as_u64) (ap (option_and_then number_of) e ∙ sym (number_data (value_view value)))

pub number_missing : (value : Tree) → None ≡ find.as_number (value_view value) → None ≡ option_and_then as_u64 (as_number (view value))
number_missing value e = ap (option_and_then as_u64) (ap (option_and_then number_of) e ∙ sym (number_data (value_view value)))
