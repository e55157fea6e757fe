-- What stands as a boot ends.
--
-- A past is the log as a boot ended: all of it before the next boot, or before the campaign's end.
use Rattle.std.specs.Prelude.{◌≡◌, ◌⊎◌, ℕ, Bool, true, false, ◌||◌, ◌==◌, List, [], ◌∷◌, ◌++◌, if◌then◌else◌}
use Rattle.std.specs.List.{list_any, AllByRecursion}
use Rattle.update_log.specs.declared.event.Event.{Event}
use Rattle.update_log.specs.declared.event.Back.{Back}
use Rattle.update_log.specs.Holding.{held, holds, live, open_steps}
use Rattle.update_log.specs.Once.{takes}
use Rattle.update_log.specs.Pasts.{finishes, is_boot, off}

-- The event gives that entry back.
abbrev pub gives_back : ℕ → Event → Bool
gives_back entry (Event.GiveBack client (Back.Entry given)) = given == entry
gives_back entry _ = false

-- The entry was given back in the boot that runs.
abbrev pub given_after : ℕ → Event → Bool → Bool
given_after entry event before = if is_boot event then false else gives_back entry event || before

abbrev pub given_back : ℕ → List Event → Bool
given_back entry [] = false
given_back entry (event ∷ past) = given_after entry event (given_back entry past)

-- It was, because the boot is off.
pub record IsGivenBack (past : List Event) (entry : ℕ) : Type 0 where
  pub is_off : off past ≡ true
  pub given : given_back entry past ≡ true

-- An event of the boot that runs takes an entry; `later` are the events behind it, the newest first.
pub record Taking (past : List Event) (entry : ℕ) : Type 0 where
  pub later : List Event
  pub event : Event
  pub before : List Event
  pub are : past ≡ later ++ event ∷ before
  pub in_boot : list_any is_boot later ≡ false
  pub takes_it : takes entry event ≡ true

-- One of these events finishes the entry; or one gives it back, in a boot that is off.
abbrev pub IsEndedBy : Bool → ℕ → List Event → Type 0
IsEndedBy is_off entry events =
    (list_any (finishes entry) events ≡ true) ⊎ ((is_off ≡ true) × (list_any (gives_back entry) events ≡ true))

-- A boot ends idle: there is no hold and no live entry, and so no block of the pool is held. No step is
-- open but of an entry that was given back, because the boot is off. And each entry that was taken in it was
-- finished behind that, or given back because the boot is off: want of memory left none of them.
pub record EndsIdle (past : List Event) : Type 0 where
  pub no_hold : holds past ≡ []
  pub no_live : live past ≡ []
  pub no_blocks : held past ≡ 0
  pub steps : AllByRecursion (λ s. IsGivenBack past s.entry) (open_steps past)
  pub ended : (entry : ℕ) (t : Taking past entry) → IsEndedBy (off past) entry t.later
