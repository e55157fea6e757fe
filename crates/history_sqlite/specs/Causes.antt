-- The statements on the rows, and why a call that runs them is refused: what the database refused is told as it
-- was, a fault as a fault and want of memory as that.
use Rattle.std.specs.Prelude.{◌≡◌, ◌⊎◌, ℕ, pos, List, [], ◌∷◌, codes, Option, Some, None, Err, map, All, Any, IsTrue, IsSome}
use Rattle.sqlite.specs.declared.types.Value.{Value}
use Rattle.sqlite.specs.declared.types.Value.TheVariants.{Int}
use Rattle.sqlite.specs.declared.error.Error.{Error}
use Rattle.sqlite.specs.Store.{Ghosts}
use Rattle.sqlite.specs.Held.{Held, state}
use Rattle.sqlite.specs.State.{State, HasCleanDisk, Executes, ExecutesInside, FailsToQuery, Shown}
use Rattle.sqlite.specs.Steps.{FailsToCommit}
use Rattle.history_keeper.specs.declared.row.Row.{Row}
use Rattle.history_keeper.specs.declared.refusal.KeeperRefusal.{KeeperRefusal}
use Rattle.history_keeper.specs.declared.refusal.KeeperRefusal.TheVariants.{Fault, NoMemory}
use Rattle.history_keeper.specs.declared.change.Change.{Change}
use Rattle.history_keeper.specs.declared.change.Change.TheVariants.{Add, Advance}
use Rattle.history_keeper.specs.declared.plan.Doubt.{Doubt}
use Rattle.history_sqlite.specs.declared.finding.Found.TheVariants.{Other}
use Rattle.history_sqlite.specs.Columns.{columns_of, row_read, older_row_read, values_of}
use Rattle.history_sqlite.specs.Tables.{create_history_text}
use Rattle.history_sqlite.specs.Finding.{IsFound, IsNumberless, IsNotMade}
use Rattle.history_sqlite.specs.Refusals.{refusal_of}

abbrev pub insert_text : List ℕ
insert_text = codes "INSERT INTO history2 VALUES (?1, ?2, ?3, ?4, ?5, ?6, ?7, ?8, ?9, ?10, ?11, ?12, ?13, ?14, ?15, ?16)"

abbrev pub update_text : List ℕ
update_text = codes "UPDATE history2 SET state = ?2, reason = ?3, time_changed = ?4 WHERE entry = ?1"

abbrev pub select_text : List ℕ
select_text = codes "SELECT entry, tag, client, device, component, version_old, version_new, digest, flags, state, reason, time_added, time_changed, duration, protocol, retry_of FROM history2 ORDER BY entry"

-- The rows of schema 1 are read once, as they are taken over.
abbrev pub older_select_text : List ℕ
older_select_text = codes "SELECT entry, tag, client, device, component, version_old, version_new, digest, flags, state, reason, time_added, time_changed FROM history ORDER BY entry"

-- A block of the rows of schema 1 is copied: those after this entry.
abbrev pub copy_text : List ℕ
copy_text = codes "INSERT INTO history2 SELECT entry, tag, client, device, component, version_old, version_new, digest, flags, state, reason, time_added, time_changed, 0, NULL, NULL FROM history WHERE entry > ?1 ORDER BY entry LIMIT 256"

abbrev pub renumber_text : List ℕ
renumber_text = codes "UPDATE schema SET number = 2"

-- The database refused the statement with these values, for that reason.
abbrev pub IsRefused : KeeperRefusal → List ℕ → List Value → State → State → Type 0
IsRefused why sql values old new = (e : Error) × (refusal_of e ≡ why) × Executes sql values old new (Err e)

-- It refused the question, for that reason.
abbrev pub IsUnanswered : KeeperRefusal → List ℕ → State → State → Type 0
IsUnanswered why sql old new = (e : Error) × (refusal_of e ≡ why) × FailsToQuery sql [] old new e

-- It answered the question.
abbrev pub IsAnswered : List ℕ → State → State → Type 0
IsAnswered sql old new = (shown : List (List Value)) × Shown sql [] old new shown

-- It gave columns that no row has.
abbrev pub IsStrange : List ℕ → (List Value → Option Row) → State → State → Type 0
IsStrange sql read old new = (shown : List (List Value)) × Shown sql [] old new shown × Any (λ columns. read columns ≡ None) shown

-- The select was run, and these are the rows that it showed.
abbrev pub IsRead : State → State → List Row → Type 0
IsRead old new rows = (shown : List (List Value)) × Shown select_text [] old new shown × (map Some rows ≡ map row_read shown)

-- These rows are those that the select shows of the database as it is.
abbrev pub AreAtHand : State → List Row → Type 0
AreAtHand s rows = HasCleanDisk s → IsRead s s rows

-- The select of the rows of schema 1 was run, and each that it showed stands for a row.
abbrev pub OlderStand : State → State → Type 0
OlderStand old new = (shown : List (List Value)) × Shown older_select_text [] old new shown × All (λ columns. IsSome (older_row_read columns)) shown

-- That was so from this connection on.
abbrev pub OlderStood : {D : Type 0} → Ghosts D → Held D → Type 0
OlderStood {D} store old = (mid : Held D) × OlderStand (state store old) (state store mid)

-- The rows were read again from this connection on, each of which is one.
abbrev pub IsReadAgain : {D : Type 0} → Ghosts D → Held D → Type 0
IsReadAgain {D} store old = (mid : Held D) × (rows : List Row) × IsRead (state store old) (state store mid) rows

-- Why a select of rows is refused: the database refused it, or it is a fault where a row of the table stands for
-- none. Memory may also be wanting for rows that it gave.
abbrev pub FailsToRead : KeeperRefusal → List ℕ → (List Value → Option Row) → State → State → Type 0
FailsToRead Fault sql read old new = IsUnanswered Fault sql old new ⊎ IsStrange sql read old new
FailsToRead NoMemory sql read old new = IsUnanswered NoMemory sql old new ⊎ IsAnswered sql old new

-- Why a load is refused.
abbrev pub FailsToLoad : KeeperRefusal → State → State → Type 0
FailsToLoad why old new = FailsToRead why select_text row_read old new

-- Why the rows of schema 1 can't be read.
abbrev pub FailsToLoadOlder : KeeperRefusal → State → State → Type 0
FailsToLoadOlder why old new = FailsToRead why older_select_text older_row_read old new

-- Why a change is refused.
abbrev pub FailsToMake : KeeperRefusal → Change → State → State → Type 0
FailsToMake why (Add row) old new = IsRefused why insert_text (columns_of row) old new
FailsToMake why (Advance entry state reason time) old new = IsRefused why update_text (values_of entry state reason time) old new

-- Why a reopening is refused: the rows could not be read, or the doubtful change that is to be kept
-- could not be made after that.
abbrev pub FailsToSettle : {D : Type 0} → Ghosts D → KeeperRefusal → Held D → Held D → Option Doubt → Type 0
FailsToSettle {D} store why old new doubt =
    FailsToLoad why (state store old) (state store new) ⊎ ((it : Doubt) × (doubt ≡ Some it) × (mid : Held D) × FailsToMake why it.change (state store mid) (state store new))

-- A statement by which rows are taken over, with its values: the making of the table, the insert of a block of rows, or the new number.
abbrev pub IsTakingStatement : List ℕ → List Value → Type 0
IsTakingStatement sql values =
    ((sql ≡ create_history_text) × (values ≡ [])) ⊎ (((from : ℕ) × (sql ≡ copy_text) × (values ≡ Int (pos from) ∷ [])) ⊎ ((sql ≡ renumber_text) × (values ≡ [])))

module _ {D : Type 0} (store : Ghosts D) where
  -- A statement by which rows are taken over was refused.
  abbrev pub IsNotWritten : Error → Type 0
  IsNotWritten e = (sql : List ℕ) × (values : List Value) × IsTakingStatement sql values × (before : Held D) × (after : Held D) × ExecutesInside 0 sql values (state store before) (state store after) (Err e)

  -- Why rows that were read are not taken over: a transaction was open, or a statement or the commit was refused.
  abbrev pub IsNotCopied : Held D → Error → Type 0
  IsNotCopied old e = IsTrue old.in_transaction ⊎ (IsNotWritten e ⊎ ((before : Held D) × (after : Held D) × FailsToCommit (state store before) (state store after) e))

  -- Why the taking over is refused: the rows can't be read, or can't be written to the new table.
  abbrev pub FailsToTakeOver : KeeperRefusal → Held D → Type 0
  FailsToTakeOver why old = (mid : Held D) × (FailsToLoadOlder why (state store old) (state store mid) ⊎ ((e : Error) × (refusal_of e ≡ why) × IsNotCopied mid e))

  -- The database refused to show the number, to make the tables, or to have the rows of schema 1 taken over.
  abbrev pub IsUnopened : KeeperRefusal → Held D → Held D → Type 0
  IsUnopened why old new =
      IsNumberless why (state store old) (state store new) ⊎ (((e : Error) × (refusal_of e ≡ why) × IsNotMade store old e) ⊎ ((mid : Held D) × FailsToTakeOver why mid))

  -- Why an opening is refused: by the database, or as a fault where a transaction is open or the tables are other ones.
  abbrev pub FailsToOpen : KeeperRefusal → Held D → Held D → Type 0
  FailsToOpen Fault old new = IsTrue old.in_transaction ⊎ (IsFound (state store old) (state store new) Other ⊎ IsUnopened Fault old new)
  FailsToOpen NoMemory old new = IsUnopened NoMemory old new

  -- Why the adopting of a connection is refused: its tables could not be opened, or its rows could not be read.
  abbrev pub FailsToAdopt : KeeperRefusal → Held D → Held D → Type 0
  FailsToAdopt why old new = FailsToOpen why old new ⊎ ((mid : Held D) × FailsToLoad why (state store mid) (state store new))

  -- The connection that a refused adopting let go of, and why it was refused.
  abbrev pub IsUnadopted : KeeperRefusal → Held D → Type 0
  IsUnadopted why old = (last : Held D) × (HasCleanDisk (state store last) → FailsToAdopt why old last)
