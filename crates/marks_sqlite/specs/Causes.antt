-- The two statements, and why a call that runs them is refused: what the database refused is told as it was, a fault
-- as a fault and want of memory as that.
use Rattle.std.specs.Prelude.{◌≡◌, ◌⊎◌, ℕ, ◌^◌, List, [], codes, Option, Some, None, Any, IsTrue}
use Rattle.sqlite.specs.declared.types.Value.{Value}
use Rattle.sqlite.specs.Order.{column}
use Rattle.sqlite.specs.Store.{Ghosts}
use Rattle.sqlite.specs.Held.{Held, state}
use Rattle.sqlite.specs.State.{State, HasCleanDisk, Shown}
use Rattle.history_keeper.specs.declared.refusal.KeeperRefusal.{KeeperRefusal}
use Rattle.history_keeper.specs.declared.refusal.KeeperRefusal.TheVariants.{Fault, NoMemory}
use Rattle.history_sqlite.specs.Causes.{IsAnswered, IsRefused, IsUnanswered}
use Rattle.history_sqlite.specs.Columns.{number_in}
use Rattle.report_queue.specs.declared.memory_marks.DoubtfulMark.{DoubtfulMark}
use Rattle.marks_sqlite.specs.Finding.{HasNone, HasTable}
use Rattle.marks_sqlite.specs.Tables.{create_text, shown_of}

-- The database chooses the place: one above the last.
abbrev pub insert_text : List ℕ
insert_text = codes "INSERT INTO reported (entry) VALUES (?1)"

abbrev pub select_text : List ℕ
select_text = codes "SELECT entry FROM reported ORDER BY place"

-- The entry that the select showed, where it is one.
abbrev pub entry_read : List Value → Option ℕ
entry_read columns = number_in (2 ^ 32) (column columns 0)

-- The database gave a number that no entry is.
abbrev pub IsStrange : State → State → Type 0
IsStrange old new = (shown : List (List Value)) × Shown select_text [] old new shown × Any (λ columns. entry_read columns ≡ None) shown

-- Why a load is refused: the database refused the select, or it is a fault where it gave a number that no entry is. Memory
-- may also be wanting for marks that it gave.
abbrev pub FailsToLoad : KeeperRefusal → State → State → Type 0
FailsToLoad Fault old new = IsUnanswered Fault select_text old new ⊎ IsStrange old new
FailsToLoad NoMemory old new = IsUnanswered NoMemory select_text old new ⊎ IsAnswered select_text old new

-- Why a mark is refused.
abbrev pub FailsToMark : KeeperRefusal → ℕ → State → State → Type 0
FailsToMark why entry old new = IsRefused why insert_text (shown_of entry) old new

-- Why a reopening is refused: the marks could not be read, or the doubtful one that is to be kept could not be made.
abbrev pub FailsToSettle : {D : Type 0} → Ghosts D → KeeperRefusal → Held D → Held D → Option DoubtfulMark → Type 0
FailsToSettle {D} store why old new doubt =
    FailsToLoad why (state store old) (state store new) ⊎ ((it : DoubtfulMark) × (doubt ≡ Some it) × (mid : Held D) × FailsToMark why it.entry (state store mid) (state store new))

-- The table could not be made.
abbrev pub IsUnmade : {D : Type 0} → Ghosts D → KeeperRefusal → Held D → Held D → Type 0
IsUnmade {D} store why old new = IsRefused why create_text [] (state store old) (state store new)

-- Why an opening is refused: the table could not be made, or it is a fault where a transaction is open or the table is
-- another one.
abbrev pub FailsToOpen : {D : Type 0} → Ghosts D → KeeperRefusal → Held D → Held D → Type 0
FailsToOpen {D} store Fault old new = IsTrue old.in_transaction ⊎ (((HasNone old.schema → ⊥) × (HasTable old.schema → ⊥)) ⊎ IsUnmade store Fault old new)
FailsToOpen {D} store NoMemory old new = IsUnmade store NoMemory old new

-- Why the adopting of a connection is refused: its table could not be opened, or its marks could not be read.
abbrev pub FailsToAdopt : {D : Type 0} → Ghosts D → KeeperRefusal → Held D → Held D → Type 0
FailsToAdopt {D} store why old new = FailsToOpen store why old new ⊎ ((mid : Held D) × FailsToLoad why (state store mid) (state store new))

-- The connection that a refused adopting let go of, and why it was refused.
abbrev pub IsUnadopted : {D : Type 0} → Ghosts D → KeeperRefusal → Held D → Type 0
IsUnadopted {D} store why old = (last : Held D) × (HasCleanDisk (state store last) → FailsToAdopt store why old last)
