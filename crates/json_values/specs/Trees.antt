-- What a JSON value over borrowed text stands for: its data in the words of `serde_json`.
use Rattle.std.specs.Prelude.{ℕ, List, [], ◌∷◌, map, Bool, true, ◌&&◌, is_some, Option, Some, None}
use Rattle.std.specs.Borrow.{Bor}
use Rattle.std.specs.declared.alloc.Global.{Global}
use Rattle.json.specs.Json as json
use Rattle.json.specs.Value.{value_view}
use Rattle.json.specs.declared.value.Value.{Value}
use Rattle.serde_json.specs.Data.{Num, Data, null, boolean, number, string, array, object, Items, no_items, item, Members, no_members, member, put}
use Rattle.serde_json.specs.Read.{number_of}
use Rattle.serde_json.specs.View.{items_of}

-- A value: a tree over its text.
abbrev pub Tree : Type 0
Tree = Value Global

-- The number of a numeral, or null where it is out of range. A value that was read has no such numeral.
abbrev pub number_or_null : Option Num → Data
number_or_null None = null
number_or_null (Some n) = number n

-- The data of a value. Members go in one after another, so the last of a key stays.
abbrev mutual
  pub data_of : json.Json → Data
  data_of json.null = null
  data_of (json.boolean b) = boolean b
  data_of (json.number s) = number_or_null (number_of s)
  data_of (json.string s) = string s
  data_of (json.array js) = array (data_of_each js)
  data_of (json.object ms) = object (members_of ms no_members)

  pub data_of_each : json.Items → Items
  data_of_each json.no_items = no_items
  data_of_each (json.item j js) = item (data_of j) (data_of_each js)

  pub members_of : json.Members → Members → Members
  members_of json.no_members found = found
  members_of (json.member k j ms) found = members_of ms (put k (data_of j) found)

abbrev pub view : Tree → Data
view value = data_of (value_view value)

abbrev pub items_view : List Tree → Items
items_view values = items_of (map view values)

-- Members by their keys, which lie elsewhere.
abbrev pub members_view : List (Bor (List ℕ) × Bor Tree) → Members
members_view [] = no_members
members_view (m ∷ ms) = member m.0.now (view m.1.now) (members_view ms)

-- Each number of a value is in range.
abbrev mutual
  pub is_in_range : json.Json → Bool
  is_in_range json.null = true
  is_in_range (json.boolean b) = true
  is_in_range (json.number s) = is_some (number_of s)
  is_in_range (json.string s) = true
  is_in_range (json.array js) = are_in_range js
  is_in_range (json.object ms) = members_are_in_range ms

  pub are_in_range : json.Items → Bool
  are_in_range json.no_items = true
  are_in_range (json.item j js) = is_in_range j && are_in_range js

  pub members_are_in_range : json.Members → Bool
  members_are_in_range json.no_members = true
  members_are_in_range (json.member k j ms) = is_in_range j && members_are_in_range ms
