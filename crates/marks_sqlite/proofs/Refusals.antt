-- Why a call over a database is refused, for either refusal.
use Rattle.std.proofs.Common.{◌≡◌, inl, inr, List, Bool, true, false, None, IsTrue, not, refl, ap, ◌∙◌}
use Rattle.std.specs.Prelude.{[], Any}
use Rattle.sqlite.specs.declared.types.Value.{Value}
use Rattle.sqlite.specs.Store.{Ghosts}
use Rattle.sqlite.specs.Held.{Held}
use Rattle.sqlite.specs.State.{State, Shown}
use Rattle.history_keeper.specs.declared.refusal.KeeperRefusal.{KeeperRefusal}
use Rattle.history_keeper.specs.declared.refusal.KeeperRefusal.TheVariants.{Fault, NoMemory}
use Rattle.history_sqlite.specs.Causes.{IsUnanswered}
use Rattle.marks_sqlite.specs.Causes.{entry_read, select_text, FailsToLoad, FailsToOpen, IsUnmade}

-- the select was refused
pub unanswered_fails : (why : KeeperRefusal) (old new : State) → IsUnanswered why select_text old new → FailsToLoad why old new
unanswered_fails Fault old new h = inl h
unanswered_fails NoMemory old new h = inl h

-- the marks that it showed couldn't be read: one of them is no entry, or memory was wanting
pub unread_fails : (why : KeeperRefusal) (old new : State) (shown : List (List Value)) → Shown select_text [] old new shown → (why ≡ Fault → Any (λ columns. entry_read columns ≡ None) shown) → FailsToLoad why old new
unread_fails Fault old new shown h strange = inr (shown, h, strange refl)
unread_fails NoMemory old new shown h strange = inr (shown, h)

-- the table couldn't be made
pub unmade_fails : {D : Type 0} (store : Ghosts D) (why : KeeperRefusal) (old new : Held D) → IsUnmade store why old new → FailsToOpen store why old new
unmade_fails store Fault old new h = inr (inr h)
unmade_fails store NoMemory old new h = h

-- a connection that commits by itself is in no transaction
pub in_none : (mode told : Bool) → told ≡ true → told ≡ not mode → IsTrue mode → ⊥
in_none mode told on is one = apart told on (is ∙ ap not one)
  where
    apart : (b : Bool) → b ≡ true → b ≡ false → ⊥
    apart b t f = cc
