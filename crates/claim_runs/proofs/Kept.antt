-- What a client knows of its claim holds of the log that its next turn meets.
use Rattle.std.proofs.Common.{◌≡◌, ℕ, true, List, [], ◌∷◌, ap, sym, ◌∙◌, subst, inl, inr}
use Rattle.std.specs.Prelude.{Option}
use Rattle.emulated_boards.specs.Boards.{BoardState}
use Rattle.update_log.proofs.Pasts.{past-push}
use Rattle.update_log.specs.declared.event.Event.{Event}
use Rattle.update_log.specs.declared.event.Op.{Op}
use Rattle.update_log.specs.Pasts.{off, past_of}
use Rattle.daemon_core.specs.Returns.{ComesHome}
use Rattle.device_claims.specs.declared.claim.Parts.{Parts}
use Rattle.install_engine.proofs.RunStays.{SameRun, claim-stays}
use Rattle.install_engine.proofs.RunSteps.{home-cut}
use Rattle.shared_daemon.proofs.Logs.{events-append}
use Rattle.shared_daemon.proofs.Others.{SameEntry, Stays, home-stays, off-stays}
use Rattle.shared_daemon.proofs.Seeing.{stays}
use Rattle.shared_daemon.specs.declared.entry.Entry.{Entry}
use Rattle.shared_daemon.specs.Calls.{Adds, FoundOff, Meets}
use Rattle.shared_daemon.specs.Entries.{entry_of, events, past_seen}
use Rattle.shared_daemon.specs.Names.{IsLogOf, Name}
use Rattle.shared_daemon.specs.Others.{IsOwn}
use Rattle.shared_daemon.specs.Steps.{GoesHome}
use Rattle.claim_runs.specs.Known.{HomeSeen, RunsSeen}

-- One event more.
pub past-added : (client : ℕ) (event : Event) (met log : List Entry) → Adds client event met log → past_seen log ≡ event ∷ past_seen met
past-added client event met log a =
    ap (λ (l : List Entry). past_seen l) a
    ∙ ap (λ (l : List Event). past_of l) (events-append met (entry_of client event ∷ []))
    ∙ past-push (events met) event

module _ (name : Name) (client : ℕ) (seen met : List Entry) (l : IsLogOf name seen) (m : Meets name client seen met) where
  -- A claim that runs still does.
  pub runs-stay : (parts : Parts) (running : Option Op) → RunsSeen name client parts running seen → RunsSeen name client parts running met
  runs-stay parts running k =
      let c = k.runs in
      let s : Stays name.basis name.first client (past_seen seen) (past_seen met) = stays name client seen met l m in
      let own : IsOwn (past_seen seen) client parts.entry k.l = record { live = c.live; client_is = c.client_is } in
      let e : SameEntry name.basis name.first (past_seen seen) (past_seen met) parts.entry k.l = s.own parts.entry k.l own in
      let same : SameRun name.basis name.first (past_seen seen) (past_seen met) parts.entry k.number k.l =
      record { live = e.live; step = e.step; traced = e.traced; row = e.row; board = e.board k.number c.board_is } in
      record {
        number = k.number;
        l = k.l;
        runs = claim-stays name.basis name.first (past_seen seen) (past_seen met) client parts k.number k.l running l.history m.log.legal same c;
        planned = k.planned;
      }

  -- A board that may come home still may.
  pub home-stay : (entry : ℕ) (b : BoardState) (blocks : ℕ) → HomeSeen name client entry b blocks seen → HomeSeen name client entry b blocks met
  home-stay entry b blocks h =
      record {
        number = h.number;
        l = h.l;
        tail = h.tail;
        comes = home-stays name.basis name.first client (past_seen seen) (past_seen met) entry h.number h.l h.tail b blocks (stays name client seen met l m) h.comes;
        planned = h.planned;
      }

  -- A boot that is off still is.
  pub off-stay : off (past_seen seen) ≡ true → off (past_seen met) ≡ true
  off-stay h = off-stays name.basis name.first client (past_seen seen) (past_seen met) (stays name client seen met l m) h

-- A turn that is answered off leaves a boot that is off, and the board may come home as before.
pub off-seen : (client : ℕ) (met log : List Entry) → FoundOff client met log → off (past_seen log) ≡ true
off-seen client met log (inl u) = ap (λ (l : List Entry). off (past_seen l)) u.1 ∙ u.0
off-seen client met log (inr c) = ap (λ (w : List Event). off w) (past-added client Event.Cut met log c.1)

pub home-off : (name : Name) (client entry : ℕ) (b : BoardState) (blocks : ℕ) (met log : List Entry) → FoundOff client met log → HomeSeen name client entry b blocks met → HomeSeen name client entry b blocks log
home-off name client entry b blocks met log (inl u) h = subst (λ (l : List Entry). HomeSeen name client entry b blocks l) (sym u.1) h
home-off name client entry b blocks met log (inr c) h =
    record {
      number = h.number;
      l = h.l;
      tail = h.tail;
      comes = subst (λ (w : List Event). ComesHome name.basis name.first w client entry h.number h.l h.tail b blocks) (sym (past-added client Event.Cut met log c.1))
          (home-cut name.basis name.first (past_seen met) client entry h.number h.l h.tail b blocks h.comes);
      planned = h.planned;
    }

pub goes-home : (name : Name) (client entry : ℕ) (b : BoardState) (blocks : ℕ) (seen : List Entry) → HomeSeen name client entry b blocks seen → off (past_seen seen) ≡ true → GoesHome name client entry b blocks seen
goes-home name client entry b blocks seen h o = record { l = h.l; number = h.number; tail = h.tail; comes = h.comes; planned = h.planned; off_is = o }
