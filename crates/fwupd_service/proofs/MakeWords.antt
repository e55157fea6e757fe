-- The numbers of `make` and of `report` are within their limits, and the tags of `plan` and `update` are tags of plans.
use Rattle.std.proofs.Common.{◌≡◌, ℕ, ◌≤◌, ◌==◌, List, [], ◌∷◌, length, position, Bool, true, false, ◌&&◌, cond, Option, Some, None, Result, Ok, Err, if◌then◌else◌, refl, sym, ap, ◌∙◌, subst, arith, nat_le, nat_lt, drop}
use Rattle.std.specs.Prelude.{codes, option_and_then, option_map}
use Rattle.std.specs.List.{before_first, after_first, position_or_len}
use Rattle.std.specs.Result.{result_ok}
use Rattle.std.specs.Str.{bytes_eq}
use Rattle.std.proofs.lemmas.Bool.{leb-true, and_parts}
use Rattle.fw_base.specs.Names.{is_no_name_byte, name_read, name_unless}
use Rattle.fw_base.specs.declared.name.NameFault.{NameFault}
use Rattle.fw_base.specs.declared.name.NameFault.TheVariants.{Empty, TooLong}
use Rattle.version_formats.specs.Versions.{version_read}
use Rattle.fw_base.specs.Decimals.{number_read}
use Rattle.command_words.specs.declared.command.Command.{Command}
use Rattle.command_words.specs.declared.command.Command.TheVariants as commands
use Rattle.command_words.specs.Commands.{Clients, by_values, clients_by, clients_from, clients_next, clients_of, command_by, command_of, explain_of, explained, ids_of, is_joined, is_joined_max, is_none, is_option, make_by, make_of, max_of, number_within, plan_of, report_of, sole_of, tag_of, tag_read, update_of}
use Rattle.command_words.specs.Parts.{is_end, values_of}
use Rattle.update_plans.specs.Tags.{IsTag}
use Rattle.fwupd_service.specs.Commands.{CommandFits, IsWithin}

-- What holds of the value that is there.
abbrev Holds : {A : Type 0} → (A → Type 0) → Option A → Type 0
Holds P None = Unit {0}
Holds P (Some x) = P x

holds-then : {A B : Type 0} (P : A → Type 0) (Q : B → Type 0) (f : A → Option B) (o : Option A) → Holds P o → ((x : A) → P x → Holds Q (f x)) → Holds Q (option_and_then f o)
holds-then P Q f None h k = tt
holds-then P Q f (Some x) h k = k x h

holds-map : {A B : Type 0} (P : A → Type 0) (Q : B → Type 0) (f : A → B) (o : Option A) → Holds P o → ((x : A) → P x → Q (f x)) → Holds Q (option_map f o)
holds-map P Q f None h k = tt
holds-map P Q f (Some x) h k = k x h

holds-any : {A : Type 0} (o : Option A) → Holds (λ (x : A). Unit {0}) o
holds-any None = tt
holds-any (Some x) = tt

holds-if : {A : Type 0} (P : A → Type 0) (b : Bool) (x y : Option A) → Holds P x → Holds P y → Holds P (if b then x else y)
holds-if P true x y h k = h
holds-if P false x y h k = k

tested : (least most n : ℕ) (b : Bool) → (nat_le least n && nat_le n most) ≡ b → Holds (IsWithin least most) (if b then Some n else None)
tested least most n true e = let h = and_parts (nat_le least n) (nat_le n most) e in record { low = leb-true least n h.0; high = leb-true n most h.1 }
tested least most n false e = tt

within : (least most : ℕ) (word : List ℕ) → Holds (IsWithin least most) (number_within least most word)
within least most word =
    holds-then (λ (n : ℕ). Unit {0}) (IsWithin least most) (λ n. if nat_le least n && nat_le n most then Some n else None) (result_ok (number_read word)) (holds-any _)
    (λ n u. tested least most n (nat_le least n && nat_le n most) refl)

-- How many clients the words say.
abbrev Few : Clients → Type 0
Few clients = IsWithin 1 16 clients.count

by-few : (front : List (List ℕ)) (number : List ℕ) (more : List (List ℕ)) → Holds Few (clients_by front number more)
by-few front number more = holds-map (IsWithin 1 16) Few _ (number_within 1 16 number) (within 1 16 number) (λ n w. w)

next-few : (front more : List (List ℕ)) → Holds Few (clients_next front more)
next-few front [] = tt
next-few front (number ∷ more) = by-few front number more

from-few : (front words : List (List ℕ)) → Holds Few (clients_from front words)
from-few front [] = record { low = omega arith; high = omega arith }
from-few front (option ∷ more) = holds-if Few (is_joined option) _ _ (by-few front (drop 10 option) more) (next-few front more)

sole-any : (values : List (List ℕ)) → Holds (λ (word : List ℕ). Unit {0}) (sole_of values)
sole-any values = holds-any (sole_of values)

make-fits : (behind : List (List ℕ)) (clients : Clients) → Few clients → Holds CommandFits (make_by behind clients)
make-fits behind clients few =
    holds-then (λ (values : List (List ℕ)). Unit {0}) CommandFits (make_of clients.count) (values_of clients.others behind) (holds-any _) (λ values u.
    holds-map (IsWithin 1 256) CommandFits (λ boards. commands.Make boards clients.count) (option_and_then (number_within 1 256) (sole_of values))
    (holds-then (λ (word : List ℕ). Unit {0}) (IsWithin 1 256) (number_within 1 256) (sole_of values) (sole-any values) (λ word u. within 1 256 word))
    (λ boards w. record { boards_fit = w; clients_fit = few }))

explain-fits : (values : List (List ℕ)) → Holds CommandFits (explain_of values)
explain-fits [] = tt
explain-fits (port ∷ []) = tt
explain-fits (port ∷ version ∷ more) =
    holds-if CommandFits (is_none more) (explained port version) None
    (holds-then (λ (p : List ℕ). Unit {0}) CommandFits (λ p. option_map (λ v. commands.Explain p v) (result_ok (version_read version))) (result_ok (name_read port)) (holds-any (result_ok (name_read port)))
    (λ p u. holds-map (λ (v : List ℕ). Unit {0}) CommandFits (λ v. commands.Explain p v) (result_ok (version_read version)) (holds-any (result_ok (version_read version))) (λ v w. tt)))
    tt

-- A name that is read is the word.
read-same : (word tag : List ℕ) → name_read word ≡ Ok tag → tag ≡ word
read-same word tag e = found (length word == 0) (nat_lt 64 (length word)) (position is_no_name_byte word) e
  where
    found : (empty long : Bool) (bad : Option ℕ) → cond empty (Err Empty) (cond long (Err (TooLong (length word))) (name_unless bad word)) ≡ Ok tag → tag ≡ word
    found true long bad e = cc
    found false true bad e = cc
    found false false (Some at) e = cc
    found false false None e = cc

tag-read : (word : List ℕ) → Holds IsTag (tag_read word)
tag-read word = short (nat_le (length word) 56) refl
  where
    of-read : (r : Result (List ℕ) NameFault) → name_read word ≡ r → length word ≤ 56 → Holds IsTag (result_ok r)
    of-read (Ok tag) e few =
        let same : tag ≡ word = read-same word tag e in
        subst IsTag (sym same) (record { few = few; read = e ∙ ap (λ (t : List ℕ). Ok t) same })
    of-read (Err fault) e few = tt

    short : (b : Bool) → nat_le (length word) 56 ≡ b → Holds IsTag (if b then result_ok (name_read word) else None)
    short true e = of-read (name_read word) refl (leb-true (length word) 56 e)
    short false e = tt

tag-fits : (values : List (List ℕ)) → Holds IsTag (tag_of values)
tag-fits values = holds-then (λ (word : List ℕ). Unit {0}) IsTag tag_read (sole_of values) (sole-any values) (λ word u. tag-read word)

plan-fits : (values : List (List ℕ)) → Holds CommandFits (plan_of values)
plan-fits values = holds-map IsTag CommandFits (λ tag. commands.Plan tag) (tag_of values) (tag-fits values) (λ tag t. t)

update-fits : (values : List (List ℕ)) → Holds CommandFits (update_of values)
update-fits values = holds-map IsTag CommandFits (λ tag. commands.Update tag) (tag_of values) (tag-fits values) (λ tag t. t)

values-fit : (name : List ℕ) (values : List (List ℕ)) → Holds CommandFits (by_values name values)
values-fit name values =
    holds-if CommandFits (bytes_eq name (codes "run")) _ _ (holds-if CommandFits (is_none values) (Some commands.Run) None tt tt)
    (holds-if CommandFits (bytes_eq name (codes "check")) _ _ (holds-if CommandFits (is_none values) (Some commands.Check) None tt tt)
    (holds-if CommandFits (bytes_eq name (codes "remotes")) _ _ (holds-if CommandFits (is_none values) (Some commands.Remotes) None tt tt)
    (holds-if CommandFits (bytes_eq name (codes "explain")) _ _ (explain-fits values)
    (holds-if CommandFits (bytes_eq name (codes "plan")) _ _ (plan-fits values)
    (holds-if CommandFits (bytes_eq name (codes "update")) _ None (update-fits values) tt)))))

ids-fit : (texts : List (List ℕ)) → Holds CommandFits (ids_of texts)
ids-fit texts = holds-if CommandFits _ (Some (commands.Ids texts)) None tt tt

max-within : (words : List (List ℕ)) → Holds (IsWithin 1 65536) (max_of words)
max-within [] = record { low = omega arith; high = omega arith }
max-within (option ∷ []) = holds-if (IsWithin 1 65536) (is_joined_max option) (number_within 1 65536 (drop 6 option)) None (within 1 65536 (drop 6 option)) tt
max-within (option ∷ number ∷ more) =
    holds-if (IsWithin 1 65536) (bytes_eq option (codes "--max") && is_none more) (number_within 1 65536 number) None (within 1 65536 number) tt

report-fits : (before behind : List (List ℕ)) → Holds CommandFits (report_of before behind)
report-fits before behind =
    holds-if CommandFits (is_none behind) (option_map (λ max. commands.Report max) (max_of before)) None
    (holds-map (IsWithin 1 65536) CommandFits (λ max. commands.Report max) (max_of before) (max-within before) (λ max w. w)) tt

by-fits : (name : List ℕ) (before behind : List (List ℕ)) → Holds CommandFits (command_by name before behind)
by-fits name before behind =
    holds-if CommandFits (bytes_eq name (codes "make")) _ _ (holds-then Few CommandFits (make_by behind) (clients_of before) (from-few (before_first is_option before) (drop (position_or_len is_option before) before)) (λ clients few. make-fits behind clients few))
    (holds-if CommandFits (bytes_eq name (codes "report")) _ _ (report-fits before behind)
    (holds-if CommandFits (bytes_eq name (codes "ids")) _ _
    (holds-then (λ (v : List (List ℕ)). Unit {0}) CommandFits ids_of (values_of before behind) (holds-any _) (λ v u. ids-fit v))
    (holds-then (λ (v : List (List ℕ)). Unit {0}) CommandFits (by_values name) (values_of before behind) (holds-any _) (λ v u. values-fit name v))))

command-fits : (words : List (List ℕ)) → Holds CommandFits (command_of words)
command-fits [] = tt
command-fits (name ∷ words) = by-fits name (before_first is_end words) (after_first is_end words)

pub words-fit : (words : List (List ℕ)) (command : Command) → command_of words ≡ Some command → CommandFits command
words-fit words command e = subst (λ (o : Option Command). Holds CommandFits o) e (command-fits words)
