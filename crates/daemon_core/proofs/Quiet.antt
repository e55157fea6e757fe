-- What a quiet event leaves as it was.
use Rattle.std.proofs.Common.{◌≡◌, ℕ, ◌≤◌, true, false, List, [], ◌∷◌, refl, ap, ◌∙◌, le_refl}
use Rattle.std.proofs.lemmas.List.{append-nil}
use Rattle.std.proofs.lemmas.Bool.{not-true}
use Rattle.std.specs.Prelude.{None}
use Rattle.fw_facts.specs.declared.seen.Seen.{Seen}
use Rattle.update_log.specs.declared.answer.AskAnswer.{AskAnswer}
use Rattle.update_log.specs.declared.answer.ClaimAnswer.{ClaimAnswer}
use Rattle.update_log.specs.declared.answer.PlugAnswer.{PlugAnswer}
use Rattle.update_log.specs.declared.event.Event.{Event}
use Rattle.update_log.specs.Holding.{holds, live, open_steps}
use Rattle.update_log.specs.Known.{Basis, Known, known, rows, tells}
use Rattle.update_log.specs.Pasts.{boots, is_keeper_fault, meets_fault}
use Rattle.update_log.specs.Shows.{raw_of, told_by}
use Rattle.daemon_core.proofs.PlacesKept.{SameOfBoard}
use Rattle.daemon_core.specs.Boards.{is_faulty_end}
use Rattle.daemon_core.specs.Owed.{owed}
use Rattle.daemon_core.specs.Quiet.{is_quiet}
use Rattle.daemon_core.proofs.OwedLaws.{owed-cut}

-- An event leaves all as it was.
pub record Still (basis : Basis) (first : List Seen) (past : List Event) (event : Event) : Type 0 where
  pub same_known : known basis (event ∷ past) ≡ known basis past
  pub same_live : live (event ∷ past) ≡ live past
  pub same_holds : holds (event ∷ past) ≡ holds past
  pub same_steps : open_steps (event ∷ past) ≡ open_steps past
  pub same_boots : boots (event ∷ past) ≡ boots past
  pub told : (number : ℕ) → told_by basis.facts (rows basis past) event number ≡ []
  pub same_tells : (number : ℕ) → tells basis.facts (live past) (known basis past) event number ≡ None
  pub same_raws : (entry : ℕ) → raw_of entry (event ∷ past) ≡ raw_of entry past
  pub faulty : (number : ℕ) → is_faulty_end basis.facts (rows basis past) number event ≡ false
  pub met : meets_fault event ≡ false
  pub owes : owed (event ∷ past) ≤ owed past

-- What such an event leaves to be said of a board.
pub still-board : (basis : Basis) (first : List Seen) (past : List Event) (event : Event) (number : ℕ) → Still basis first past event → SameOfBoard basis first past (event ∷ past) number
still-board basis first past event number s =
    let r : rows basis (event ∷ past) ≡ rows basis past = ap (λ (k : Known). k.rows) s.same_known in
    record {
      told = rw (s.told number) (append-nil _);
      out = rw (s.same_live, r) refl;
      opened = rw (s.same_steps, r) refl;
      marks = rw (s.same_steps, r) refl;
      booted = λ h. rw s.same_boots at h;
      seen = ap (λ (k : Known). k.shown number) s.same_known;
      before = rw (s.same_tells number) refl;
      began = rw (s.same_tells number, s.told number) refl;
      raws = λ entry raw h. s.same_raws entry ∙ h;
      faults = rw (s.faulty number) refl;
    }

pub quiet-still : (basis : Basis) (first : List Seen) (past : List Event) (event : Event) → is_quiet event ≡ true → Still basis first past event
quiet-still basis first past (Event.Boot number time limit found boards) q = cc
quiet-still basis first past (Event.Ask client request pending (AskAnswer.Hold blocks release)) q = cc
quiet-still basis first past (Event.Claim client request fetched answer) q = cc
quiet-still basis first past (Event.Schedule client request (ClaimAnswer.Entry entry)) q = cc
quiet-still basis first past (Event.Schedule client request (ClaimAnswer.Refused refusal)) q =
    let f : is_keeper_fault refusal ≡ false = not-true (is_keeper_fault refusal) q in
    record { same_known = rw f refl; same_live = refl; same_holds = refl; same_steps = refl; same_boots = refl; told = λ n. refl; same_tells = λ n. refl; same_raws = λ e. refl; faulty = λ n. refl; met = f; owes = rw f (le_refl _) }
quiet-still basis first past (Event.Resume client entry fetched answer stored) q = cc
quiet-still basis first past (Event.Start client entry op) q = cc
quiet-still basis first past (Event.End client entry op outcome told seen) q = cc
quiet-still basis first past (Event.Finish client entry state stored) q = cc
quiet-still basis first past (Event.Judge client entry version state stored) q = cc
quiet-still basis first past (Event.Unplug client device (PlugAnswer.Done seen)) q = cc
quiet-still basis first past (Event.Plug client device (PlugAnswer.Done seen)) q = cc
quiet-still basis first past (Event.GiveBack client what) q = cc
quiet-still basis first past Event.Cut q =
    record { same_known = refl; same_live = refl; same_holds = refl; same_steps = refl; same_boots = refl; told = λ n. refl; same_tells = λ n. refl; same_raws = λ e. refl; faulty = λ n. refl; met = refl; owes = owed-cut past }
quiet-still basis first past _ q =
    record { same_known = refl; same_live = refl; same_holds = refl; same_steps = refl; same_boots = refl; told = λ n. refl; same_tells = λ n. refl; same_raws = λ e. refl; faulty = λ n. refl; met = refl; owes = le_refl _ }
