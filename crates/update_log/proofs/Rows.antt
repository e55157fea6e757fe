-- How the rows grow.
use Rattle.std.proofs.Common.{◌≡◌, ℕ, Bool, true, false, List, refl, ◌≤◌, arith, ◌⊎◌, inl, inr, length}
use Rattle.std.proofs.lemmas.List.{length_push, length-map}
use Rattle.std.specs.Prelude.{Option, Some, if◌then◌else◌, MatchBool}
use Rattle.history_keeper.specs.Changes.{changed, with_state}
use Rattle.history_keeper.specs.declared.change.Change.{Change}
use Rattle.history_keeper.specs.declared.row.Row.{Row}
use Rattle.release_catalogue.specs.declared.reference.ReleaseRef.{ReleaseRef}
use Rattle.update_log.specs.Known.{Fate, Target, rows_by, rows_found}
use Rattle.update_log.specs.Legal.{ClaimAnswered, is_fetched}
use Rattle.update_log.specs.declared.answer.ClaimAnswer.{ClaimAnswer}
use Rattle.update_log.specs.declared.decision.Decision.{Decision}
use Rattle.update_log.specs.declared.event.Found.{Found}
use Rattle.update_log.specs.declared.refusal.FetchNote.{FetchNote}
use Rattle.update_log.specs.declared.refusal.Refusal.{Refusal}

pub changed-grows : (change : Change) (rows : List Row) → length rows ≤ length (changed change rows)
changed-grows (Change.Add row) rows = omega (arith, length_push rows row)
changed-grows (Change.Advance entry state reason time) rows = omega (arith, length-map rows (with_state entry state reason time))

pub found-grows : (found : Found) (doubt : Option Change) (rows : List Row) → length rows ≤ length (rows_found found doubt rows)
found-grows Found.Kept (Some change) rows = changed-grows change rows
found-grows _ _ rows = omega arith

-- a refused claim changes no row
pub rows_by-refused : (b : Bool) (change : Option Change) (rows : List Row) → rows_by (if b then Fate.Doubtful else Fate.Dropped) change rows ≡ rows
rows_by-refused true change rows = refl
rows_by-refused false change rows = refl

-- an accepted claim was decided so, was fetched whole, and its entry is the next one
abbrev pub Accepted : FetchNote → Option Target → ℕ → Decision → ℕ → Type 0
Accepted note t next d entry =
    (device : ℕ) × (blocks : ℕ) × (release : ReleaseRef) × (d ≡ Decision.Accept device release blocks) × (entry ≡ next) × (is_fetched note t ≡ true)

pub accepted-claim : (note : FetchNote) (t : Option Target) (next : ℕ) (d : Decision) (entry : ℕ) → ClaimAnswered note t next d (ClaimAnswer.Entry entry) → Accepted note t next d entry
accepted-claim note t next (Decision.Kept e s) entry h = cc
accepted-claim note t next (Decision.Refused r) entry h = cc
accepted-claim note t next (Decision.Accept device release blocks) entry h = at (is_fetched note t) refl h
  where
    open_true : is_fetched note t ≡ true → ((ClaimAnswer.Entry entry ≡ ClaimAnswer.Entry next) ⊎ (ClaimAnswer.Entry entry ≡ ClaimAnswer.Refused Refusal.KeeperFault)) → Accepted note t next (Decision.Accept device release blocks) entry
    open_true w (inl e) = (device, blocks, release, refl, cc, w)
    open_true w (inr e) = cc

    at : (b : Bool) → is_fetched note t ≡ b → MatchBool b ((ClaimAnswer.Entry entry ≡ ClaimAnswer.Entry next) ⊎ (ClaimAnswer.Entry entry ≡ ClaimAnswer.Refused Refusal.KeeperFault)) (ClaimAnswer.Entry entry ≡ ClaimAnswer.Refused (Refusal.Payload note)) → Accepted note t next (Decision.Accept device release blocks) entry
    at true w k = open_true w k
    at false w k = cc
