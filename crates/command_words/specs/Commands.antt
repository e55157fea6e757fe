-- Which words are a command, and which.
--
-- A word is a list of bytes. Names, versions and numbers are ASCII, so that a word which is no UTF-8 is none of them.
use Rattle.std.specs.Prelude.{◌≡◌, ℕ, List, [], ◌∷◌, ◌++◌, length, drop, Bool, true, false, nat_eq, nat_le, codes, ◌||◌, ◌&&◌, Option, Some, None, IsSome, Result, Ok, Err, option_and_then, option_map, if◌then◌else◌}
use Rattle.std.specs.List.{before_first, after_first, position_or_len, list_all, starts_with}
use Rattle.std.specs.Result.{result_ok}
use Rattle.std.specs.Str.{bytes_eq}
use Rattle.fw_base.specs.Names.{name_read}
use Rattle.fw_base.specs.Decimals.{number_read}
use Rattle.version_formats.specs.Versions.{version_read}
use Rattle.command_words.specs.Texts.{is_text}
use Rattle.command_words.specs.Parts.{is_end, values_of}
use Rattle.command_words.specs.declared.command.Command.{Command}
use Rattle.command_words.specs.declared.command.Command.TheVariants as commands
use Rattle.command_words.specs.declared.command.WordsFault.{WordsFault}
use Rattle.command_words.specs.declared.command.WordsFault.TheVariants.{Usage, NoMemory}

-- ---- commands with values alone

-- whether there is no word
abbrev pub is_none : List (List ℕ) → Bool
is_none [] = true
is_none (word ∷ words) = false

-- a command that takes no value
abbrev pub alone : Command → List (List ℕ) → Option Command
alone command values = if is_none values then Some command else None

abbrev pub explained : List ℕ → List ℕ → Option Command
explained port version =
    option_and_then (λ port. option_map (λ version. commands.Explain port version) (result_ok (version_read version))) (result_ok (name_read port))

-- a port and a version, and nothing else
abbrev pub explain_of : List (List ℕ) → Option Command
explain_of [] = None
explain_of (port ∷ []) = None
explain_of (port ∷ version ∷ more) = if is_none more then explained port version else None

-- the one word, where there is just one
abbrev pub sole_of : List (List ℕ) → Option (List ℕ)
sole_of [] = None
sole_of (word ∷ more) = if is_none more then Some word else None

-- a tag from which those of a plan's installs are made: a name of at most 56 bytes, and nothing else
abbrev pub tag_read : List ℕ → Option (List ℕ)
tag_read word = if nat_le (length word) 56 then result_ok (name_read word) else None

abbrev pub tag_of : List (List ℕ) → Option (List ℕ)
tag_of values = option_and_then tag_read (sole_of values)

abbrev pub plan_of : List (List ℕ) → Option Command
plan_of values = option_map (λ tag. commands.Plan tag) (tag_of values)

abbrev pub update_of : List (List ℕ) → Option Command
update_of values = option_map (λ tag. commands.Update tag) (tag_of values)

-- 1 to 64 texts
abbrev pub ids_of : List (List ℕ) → Option Command
ids_of texts =
    if nat_le 1 (length texts) && (nat_le (length texts) 64 && list_all is_text texts) then Some (commands.Ids texts) else None

-- ---- `make`

-- a number within limits
abbrev pub number_within : ℕ → ℕ → List ℕ → Option ℕ
number_within least most word =
    option_and_then (λ n. if nat_le least n && nat_le n most then Some n else None) (result_ok (number_read word))

-- the boards: the one value
abbrev pub make_of : ℕ → List (List ℕ) → Option Command
make_of clients values =
    option_map (λ boards. commands.Make boards clients) (option_and_then (number_within 1 256) (sole_of values))

-- `--clients=` and a number
abbrev pub is_joined : List ℕ → Bool
is_joined word = starts_with nat_eq word (codes "--clients=")

-- the option that says how many clients there are, alone or with its number
abbrev pub is_option : List ℕ → Bool
is_option word = bytes_eq word (codes "--clients") || is_joined word

-- how many clients there are, and the words that are neither the option nor its number
pub record Clients : Type 0 where
  pub count : ℕ
  pub others : List (List ℕ)

-- the option's number, between these words
abbrev pub clients_by : List (List ℕ) → List ℕ → List (List ℕ) → Option Clients
clients_by front number more = option_map (λ n. record { count = n; others = front ++ more }) (number_within 1 16 number)

-- the number is the word behind the option
abbrev pub clients_next : List (List ℕ) → List (List ℕ) → Option Clients
clients_next front [] = None
clients_next front (number ∷ more) = clients_by front number more

-- the words from the option on, where there is one: without it there are 4 clients
abbrev pub clients_from : List (List ℕ) → List (List ℕ) → Option Clients
clients_from front [] = Some (record { count = 4; others = front })
clients_from front (option ∷ more) =
    if is_joined option then clients_by front (drop 10 option) more else clients_next front more

-- how many clients the words say
abbrev pub clients_of : List (List ℕ) → Option Clients
clients_of words = clients_from (before_first is_option words) (drop (position_or_len is_option words) words)

-- a second option is a word that begins with `-`
abbrev pub make_by : List (List ℕ) → Clients → Option Command
make_by behind clients = option_and_then (make_of clients.count) (values_of clients.others behind)

-- ---- `report`

-- `--max=` and a number
abbrev pub is_joined_max : List ℕ → Bool
is_joined_max word = starts_with nat_eq word (codes "--max=")

-- the most lines: the number of the option, in the word or behind it, and 65,536 without one
abbrev pub max_of : List (List ℕ) → Option ℕ
max_of [] = Some 65536
max_of (option ∷ []) = if is_joined_max option then number_within 1 65536 (drop 6 option) else None
max_of (option ∷ number ∷ more) = if bytes_eq option (codes "--max") && is_none more then number_within 1 65536 number else None

-- the option or nothing, and no value
abbrev pub report_of : List (List ℕ) → List (List ℕ) → Option Command
report_of before behind = if is_none behind then option_map (λ max. commands.Report max) (max_of before) else None

-- ---- all commands

-- a command with these values
abbrev pub by_values : List ℕ → List (List ℕ) → Option Command
by_values name values =
    if bytes_eq name (codes "run") then alone commands.Run values
    else if bytes_eq name (codes "check") then alone commands.Check values
    else if bytes_eq name (codes "remotes") then alone commands.Remotes values
    else if bytes_eq name (codes "explain") then explain_of values
    else if bytes_eq name (codes "plan") then plan_of values
    else if bytes_eq name (codes "update") then update_of values
    else None

-- the command with this name, and these words before and behind `--`
abbrev pub command_by : List ℕ → List (List ℕ) → List (List ℕ) → Option Command
command_by name before behind =
    if bytes_eq name (codes "make") then option_and_then (make_by behind) (clients_of before)
    else if bytes_eq name (codes "report") then report_of before behind
    else if bytes_eq name (codes "ids") then option_and_then ids_of (values_of before behind)
    else option_and_then (by_values name) (values_of before behind)

-- the command that the words behind the program's name are, where they are one
abbrev pub command_of : List (List ℕ) → Option Command
command_of [] = None
command_of (name ∷ words) = command_by name (before_first is_end words) (after_first is_end words)

-- what is answered, where the words are this: the command, or that they are none, or that there was no memory for it
abbrev pub Reads : Option Command → Result Command WordsFault → Type 0
Reads wanted (Ok command) = wanted ≡ Some command
Reads wanted (Err Usage) = wanted ≡ None
Reads wanted (Err NoMemory) = IsSome wanted
