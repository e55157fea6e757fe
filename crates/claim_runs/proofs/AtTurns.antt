-- The turns of a claim: what its start, its end and its finish want, and what they leave.
use Rattle.std.proofs.Common.{◌≡◌, ℕ, List, [], ◌∷◌, ap, sym, ◌∙◌, subst}
use Rattle.std.specs.Prelude.{Some, None, Result, ⊤}
use Rattle.block_pool.specs.Views.{SealedBytes}
use Rattle.emulated_boards.specs.Boards.{BoardState}
use Rattle.emulated_boards.specs.Conditions.{view_of}
use Rattle.emulated_boards.specs.Images.{payload_image}
use Rattle.emulated_boards.specs.declared.fault.BoardFault.{BoardFault}
use Rattle.emulated_boards.specs.declared.fault.PlannedFault.{PlannedFault}
use Rattle.emulated_boards.specs.declared.image.Image.{Image}
use Rattle.emulated_boards.specs.declared.mark.Mark.{Mark}
use Rattle.update_log.specs.declared.event.Event.{Event}
use Rattle.update_log.specs.declared.event.Op.{Op}
use Rattle.update_log.specs.Legal.{IsFree, StartAllowed}
use Rattle.update_log.specs.Pasts.{off}
use Rattle.update_log.specs.Steps.{next_step}
use Rattle.daemon_core.specs.declared.finished.Finished.{Finished}
use Rattle.daemon_core.specs.Finishes.{IsDone}
use Rattle.daemon_core.specs.Returns.{ComesHome, StepEnds, new_marks}
use Rattle.device_claims.specs.States.{IsNext}
use Rattle.device_claims.specs.declared.claim.Parts.{Parts}
use Rattle.install_engine.specs.Runs.{ClaimRuns, StepLeft}
use Rattle.install_engine.proofs.RunDone.{claim-done}
use Rattle.install_engine.proofs.RunMarks.{same-plan}
use Rattle.install_engine.proofs.RunSteps.{claim-ended, claim-home, claim-start, claim-started, step-ends, step-home}
use Rattle.turn_lock.specs.Shown.{LockId, PassView}
use Rattle.shared_daemon.specs.declared.entry.Entry.{Entry}
use Rattle.shared_daemon.specs.Calls.{Adds, AddsOn, FoundOff, Took}
use Rattle.shared_daemon.specs.Entries.{past_seen}
use Rattle.daemon_core.specs.Planned.{HasPlan}
use Rattle.shared_daemon.specs.Names.{IsLogOf, IsPass, Name}
use Rattle.shared_daemon.specs.Others.{IsOwn}
use Rattle.shared_daemon.specs.Steps.{EndsOwn, GoesHome, MayFinish, MayStart}
use Rattle.shared_daemon.proofs.Stayed.{marks-met}
use Rattle.claim_runs.specs.Known.{HomeSeen, RunsFor, RunsSeen, StepToEnd}
use Rattle.claim_runs.specs.Ran.{Gained, IsOver, WasFinished, back_event}
use Rattle.claim_runs.proofs.Freed.{HasOnly, back-frees, finish-frees, only-so}
use Rattle.claim_runs.proofs.Kept.{goes-home, home-off, home-stay, off-seen, off-stay, past-added, runs-stay}
use Rattle.claim_runs.proofs.Logs.{gained-event}

-- The faults that are planned for a board stay, whatever a plugin's step does.
step-planned : (plans : List (List PlannedFault)) (number : ℕ) (op : Op) (entry : ℕ) (image : Image) (old : BoardState) (answer : Result ⊤ BoardFault) (new : BoardState) → StepLeft op entry image old answer new → HasPlan plans number old → HasPlan plans number new
step-planned plans number op entry image old answer new s p = p ∙ ap Some (sym (same-plan op entry image old answer new s))

-- ---- what may be done

module _ (name : Name) (entry : ℕ) (pass : PassView Entry) where
  pub may-start : (op : Op) (parts : Parts) → RunsFor name entry None pass parts → IsNext op parts.trace → MayStart name pass.number entry op pass.seen
  may-start op parts r n =
      let k = r.seen_so in (
        k.l,
        subst (λ (x : ℕ). StartAllowed name.basis (past_seen pass.seen) pass.number x op k.l) r.entry_is
            (claim-start name.basis name.first (past_seen pass.seen) pass.number parts k.number k.l op k.runs n),
      )

  pub may-end : (op : Op) (answer : Result ⊤ BoardFault) (now : Parts) (b : BoardState) → StepToEnd name entry op answer pass now → b ≡ now.board → EndsOwn name pass.number entry op answer b pass.seen
  may-end op answer now b s e =
      let k = s.runs.seen_so in
      let c = k.runs in
      let ends : StepEnds name.basis name.first (past_seen pass.seen) pass.number s.before.entry op answer k.number now.board =
      step-ends name.basis name.first (past_seen pass.seen) pass.number s.before k.number k.l op answer now.board k.runs s.left in
      let own : IsOwn (past_seen pass.seen) pass.number s.before.entry k.l = record { live = c.live; client_is = c.client_is } in
      record {
        l = k.l;
        number = k.number;
        own = subst (λ (x : ℕ). IsOwn (past_seen pass.seen) pass.number x k.l) s.runs.entry_is own;
        ends = subst (λ (y : BoardState). StepEnds name.basis name.first (past_seen pass.seen) pass.number entry op answer k.number y) (sym e)
            (subst (λ (x : ℕ). StepEnds name.basis name.first (past_seen pass.seen) pass.number x op answer k.number now.board) s.runs.entry_is ends);
      }

  pub may-finish : (parts : Parts) (b : BoardState) (payload : SealedBytes) → RunsFor name entry None pass parts → next_step parts.trace ≡ None → b ≡ parts.board → payload ≡ parts.payload → MayFinish name pass.number entry b payload.count pass.seen
  may-finish parts b payload r n f g =
      let k = r.seen_so in
      let home : ComesHome name.basis name.first (past_seen pass.seen) pass.number parts.entry k.number k.l [] parts.board parts.payload.count =
      claim-home name.basis name.first (past_seen pass.seen) pass.number parts k.number k.l k.runs in
      let d = claim-done name.basis name.first (past_seen pass.seen) pass.number parts k.number k.l k.runs n in
      record {
        l = k.l;
        number = k.number;
        closed = d.0;
        comes = subst (λ (x : ℕ). ComesHome name.basis name.first (past_seen pass.seen) pass.number x k.number k.l [] b payload.count) r.entry_is
            (subst (λ (y : BoardState). ComesHome name.basis name.first (past_seen pass.seen) pass.number parts.entry k.number k.l [] y payload.count) (sym f)
            (subst (λ (q : SealedBytes). ComesHome name.basis name.first (past_seen pass.seen) pass.number parts.entry k.number k.l [] parts.board q.count) (sym g) home));
        planned = subst (λ (y : BoardState). HasPlan name.plans k.number y) (sym f) k.planned;
        done = subst (λ (x : ℕ). IsDone name.basis (past_seen pass.seen) x d.0) r.entry_is d.1;
      }

  -- The board may come home between steps, and behind a plugin's step.
  pub home-between : (parts : Parts) → RunsFor name entry None pass parts → HomeSeen name pass.number entry parts.board parts.payload.count pass.seen
  home-between parts r =
      let k = r.seen_so in
      record {
        number = k.number;
        l = k.l;
        tail = [];
        comes = subst (λ (x : ℕ). ComesHome name.basis name.first (past_seen pass.seen) pass.number x k.number k.l [] parts.board parts.payload.count) r.entry_is
            (claim-home name.basis name.first (past_seen pass.seen) pass.number parts k.number k.l k.runs);
        planned = k.planned;
      }

  pub home-within : (op : Op) (answer : Result ⊤ BoardFault) (now : Parts) → StepToEnd name entry op answer pass now → HomeSeen name pass.number entry now.board now.payload.count pass.seen
  home-within op answer now s =
      let k = s.runs.seen_so in
      let h = step-home name.basis name.first (past_seen pass.seen) pass.number s.before k.number k.l op answer now.board k.runs s.left in
      record {
        number = k.number;
        l = k.l;
        tail = h.0;
        comes = subst (λ (x : ℕ). ComesHome name.basis name.first (past_seen pass.seen) pass.number x k.number k.l h.0 now.board now.payload.count) s.runs.entry_is
            (subst (λ (q : SealedBytes). ComesHome name.basis name.first (past_seen pass.seen) pass.number s.before.entry k.number k.l h.0 now.board q.count) (sym s.noted.payload) h.1);
        planned = step-planned name.plans k.number op s.before.entry (payload_image s.before.payload) s.before.board answer now.board s.left k.planned;
      }

-- ---- what a turn leaves

only-home : (name : Name) (client entry : ℕ) (b : BoardState) (blocks : ℕ) (met : List Entry) → IsLogOf name met → HomeSeen name client entry b blocks met → HasOnly (past_seen met) client entry
only-home name client entry b blocks met l h =
    only-so name.basis name.first (past_seen met) client entry h.l l.history l.legal h.comes.live h.comes.client_is

module _ {did : List Entry → List Entry → Type 0} (name : Name) (lock : LockId) (entry : ℕ) (old new : PassView Entry) (p : IsPass lock name old) (same : new.number ≡ old.number) (t : Took name did old new) where
  -- A step was started.
  pub started : (op : Op) (parts : Parts) → RunsFor name entry None old parts → AddsOn old.number (Event.Start old.number entry op) t.met new.seen → RunsFor name entry (Some op) new parts
  started op parts r a =
      let k = runs-stay name old.number old.seen t.met p.log t.meets parts None r.seen_so in
      let added : Adds old.number (Event.Start old.number parts.entry op) t.met new.seen = subst (λ (x : ℕ). Adds old.number (Event.Start old.number x op) t.met new.seen) (sym r.entry_is) a.1 in
      let now : RunsSeen name old.number parts (Some op) new.seen =
      record {
        number = k.number;
        l = k.l;
        runs = subst (λ (w : List Event). ClaimRuns name.basis name.first w old.number parts k.number k.l (Some op)) (sym (past-added old.number (Event.Start old.number parts.entry op) t.met new.seen added))
            (claim-started name.basis name.first (past_seen t.met) old.number parts k.number k.l op k.runs a.0);
        planned = k.planned;
      } in
      record { entry_is = r.entry_is; seen_so = subst (λ (n : ℕ). RunsSeen name n parts (Some op) new.seen) (sym same) now }

  -- A step was ended.
  pub ended : (op : Op) (answer : Result ⊤ BoardFault) (now : Parts) (b : BoardState) → StepToEnd name entry op answer old now → b ≡ now.board
      → AddsOn old.number (Event.End old.number entry op answer (new_marks name.basis (past_seen old.seen) entry b.journal) (view_of b.condition)) t.met new.seen → RunsFor name entry None new now
  ended op answer now b s e a =
      let n : ℕ = old.number in
      let k = runs-stay name n old.seen t.met p.log t.meets s.before (Some op) s.runs.seen_so in
      let marks : new_marks name.basis (past_seen t.met) entry b.journal ≡ new_marks name.basis (past_seen old.seen) entry b.journal =
      marks-met name n old.seen t.met entry op answer b p.log t.meets (may-end name entry old op answer now b s e) in
      let met : Adds n (Event.End n entry op answer (new_marks name.basis (past_seen t.met) entry b.journal) (view_of b.condition)) t.met new.seen =
      subst (λ (ms : List Mark). Adds n (Event.End n entry op answer ms (view_of b.condition)) t.met new.seen) (sym marks) a.1 in
      let shown : Adds n (Event.End n entry op answer (new_marks name.basis (past_seen t.met) entry now.board.journal) (view_of now.board.condition)) t.met new.seen =
      subst (λ (y : BoardState). Adds n (Event.End n entry op answer (new_marks name.basis (past_seen t.met) entry y.journal) (view_of y.condition)) t.met new.seen) e met in
      let event : Event = Event.End n s.before.entry op answer (new_marks name.basis (past_seen t.met) s.before.entry now.board.journal) (view_of now.board.condition) in
      let added : Adds n event t.met new.seen =
      subst (λ (x : ℕ). Adds n (Event.End n x op answer (new_marks name.basis (past_seen t.met) x now.board.journal) (view_of now.board.condition)) t.met new.seen) (sym s.runs.entry_is) shown in
      let now_so : RunsSeen name n now None new.seen =
      record {
        number = k.number;
        l = k.l;
        runs = subst (λ (w : List Event). ClaimRuns name.basis name.first w n now k.number k.l None) (sym (past-added n event t.met new.seen added))
            (claim-ended name.basis name.first (past_seen t.met) n s.before k.number k.l op answer now a.0 k.runs s.left s.noted);
        planned = step-planned name.plans k.number op s.before.entry (payload_image s.before.payload) s.before.board answer now.board s.left k.planned;
      } in
      record { entry_is = s.noted.entry ∙ s.runs.entry_is; seen_so = subst (λ (i : ℕ). RunsSeen name i now None new.seen) (sym same) now_so }

  pub ended-gained : (op : Op) (answer : Result ⊤ BoardFault) (now b : BoardState) → b ≡ now
      → AddsOn old.number (Event.End old.number entry op answer (new_marks name.basis (past_seen old.seen) entry b.journal) (view_of b.condition)) t.met new.seen
      → (told : List Mark) × Gained (Event.End old.number entry op answer told (view_of now.condition) ∷ []) old new
  ended-gained op answer now b e a =
      let ms : List Mark = new_marks name.basis (past_seen old.seen) entry b.journal in (
        ms,
        subst (λ (y : BoardState). Gained (Event.End old.number entry op answer ms (view_of y.condition) ∷ []) old new) e
            (gained-event {did = did} name (Event.End old.number entry op answer ms (view_of b.condition)) old new same t a.1),
      )

  -- The turn was answered off.
  pub off-home : (b : BoardState) (blocks : ℕ) → HomeSeen name old.number entry b blocks old.seen → FoundOff old.number t.met new.seen → GoesHome name new.number entry b blocks new.seen
  off-home b blocks h f =
      let n : ℕ = old.number in
      let met : HomeSeen name n entry b blocks t.met = home-stay name n old.seen t.met p.log t.meets entry b blocks h in
      subst (λ (i : ℕ). GoesHome name i entry b blocks new.seen) (sym same)
      (goes-home name n entry b blocks new.seen (home-off name n entry b blocks t.met new.seen f met) (off-seen n t.met new.seen f))

  -- A finish was, and handed the board and the payload back.
  pub finish-off : (parts : Parts) (b : BoardState) (payload : SealedBytes) → RunsFor name entry None old parts → FoundOff old.number t.met new.seen → b ≡ parts.board → payload ≡ parts.payload → GoesHome name new.number entry b payload.count new.seen
  finish-off parts b payload r f e g =
      subst (λ (y : BoardState). GoesHome name new.number entry y payload.count new.seen) (sym e)
      (subst (λ (q : SealedBytes). GoesHome name new.number entry parts.board q.count new.seen) (sym g)
      (off-home parts.board parts.payload.count (home-between name entry old parts r) f))

  -- The entry was given back.
  pub went-back : (b : BoardState) (blocks : ℕ) → GoesHome name old.number entry b blocks old.seen → Adds old.number (back_event old.number entry) t.met new.seen → IsOver new
  went-back b blocks g a =
      let n : ℕ = old.number in
      let past = past-added n (back_event n entry) t.met new.seen a in
      let met : HomeSeen name n entry b blocks t.met = home-stay name n old.seen t.met p.log t.meets entry b blocks (record { number = g.number; l = g.l; tail = g.tail; comes = g.comes; planned = g.planned }) in
      let only : HasOnly (past_seen t.met) n entry = only-home name n entry b blocks t.met t.meets.log met in
      let free : IsFree (past_seen new.seen) n = subst (λ (w : List Event). IsFree w n) (sym past) (back-frees (past_seen t.met) n entry only) in
      record {
        off_is = ap (λ (w : List Event). off w) past ∙ off-stay name n old.seen t.met p.log t.meets g.off_is;
        free_is = subst (λ (i : ℕ). IsFree (past_seen new.seen) i) (sym same) free;
      }

  -- The entry was finished.
  pub finished : (parts : Parts) (f : Finished) → RunsFor name entry None old parts → AddsOn old.number (Event.Finish old.number entry f.state f.stored) t.met new.seen → WasFinished entry f old new
  finished parts f r a =
      let n : ℕ = old.number in
      let event : Event = Event.Finish n entry f.state f.stored in
      let met : HomeSeen name n entry parts.board parts.payload.count t.met = home-stay name n old.seen t.met p.log t.meets entry parts.board parts.payload.count (home-between name entry old parts r) in
      let only : HasOnly (past_seen t.met) n entry = only-home name n entry parts.board parts.payload.count t.met t.meets.log met in
      let free : IsFree (past_seen new.seen) n = subst (λ (w : List Event). IsFree w n) (sym (past-added n event t.met new.seen a.1)) (finish-frees (past_seen t.met) n entry f.state f.stored only) in
      record {
        gained = gained-event {did = did} name event old new same t a.1;
        free_is = subst (λ (i : ℕ). IsFree (past_seen new.seen) i) (sym same) free;
      }
