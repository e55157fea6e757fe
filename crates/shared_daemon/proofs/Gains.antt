-- What the own entries of a pass gain, for callers.
use Rattle.std.proofs.Common.{◌≡◌, ℕ, List, [], ◌∷◌, ◌++◌, ap, ◌∙◌, append-nil, sym}
use Rattle.update_log.specs.declared.event.Event.{Event}
use Rattle.turn_lock.specs.Lists.{beyond}
use Rattle.turn_lock.specs.Shown.{PassView}
use Rattle.turn_lock.proofs.Counting.{beyond_append}
use Rattle.shared_daemon.specs.declared.entry.Entry.{Entry}
use Rattle.shared_daemon.specs.Calls.{Adds, Took}
use Rattle.shared_daemon.specs.Entries.{entry_of}
use Rattle.shared_daemon.specs.Names.{Name}

-- A turn that put this event behind the log.
pub took-event : (name : Name) (did : List Entry → List Entry → Type 0) (old new : PassView Entry) (client : ℕ) (event : Event) (t : Took name did old new) → Adds client event t.met new.seen → new.mine ≡ old.mine ++ entry_of client event ∷ []
took-event name did old new client event t a =
    t.mine ∙ ap (λ (l : List Entry). old.mine ++ l) (ap (λ (l : List Entry). beyond t.met l) a ∙ beyond_append t.met (entry_of client event ∷ []))

-- One that put none there.
pub took-none : (name : Name) (did : List Entry → List Entry → Type 0) (old new : PassView Entry) (t : Took name did old new) → new.seen ≡ t.met → new.mine ≡ old.mine
took-none name did old new t e =
    t.mine
    ∙ ap (λ (l : List Entry). old.mine ++ l) (ap (λ (l : List Entry). beyond t.met l) (e ∙ sym (append-nil t.met)) ∙ beyond_append t.met [])
    ∙ append-nil old.mine
