-- A log of boots that couldn't read the history says the same of boards over any rows before it.
use Rattle.std.proofs.Common.{◌≡◌, ℕ, Bool, true, ◌||◌, ◌≤◌, List, [], ◌∷◌, ◌++◌, refl, ap, sym, ◌∙◌, inl, inr, length, subst}
use Rattle.std.specs.Prelude.{Option, Some, None, Contains, IsTrue, slice_get, unwrap_or, option_map}
use Rattle.std.specs.List.{list_any}
use Rattle.emulated_boards.specs.Boards.{BoardState}
use Rattle.emulated_boards.specs.declared.mark.Mark.{Mark}
use Rattle.fw_facts.specs.declared.seen.Seen.{Seen}
use Rattle.history_keeper.specs.declared.row.Row.{Row}
use Rattle.update_log.specs.Pasts.{AllFaults, is_fault_boot}
use Rattle.update_log.specs.declared.event.BoardSeen.{BoardSeen}
use Rattle.update_log.specs.declared.event.Event.{Event}
use Rattle.update_log.specs.declared.event.Found.{Found}
use Rattle.update_log.specs.declared.facts.BootPlan.{BootPlan}
use Rattle.update_log.specs.declared.facts.Facts.{Facts}
use Rattle.update_log.specs.Known.{basis_of, seen}
use Rattle.update_log.specs.Legal.{Allowed, BoardListed, IsLegal, open_marks, open_on}
use Rattle.update_log.specs.Shows.{campaign_on, FreshShows, HasRaw, IsPrefix, RawAllowed, began_since, home_before, home_or, is_began, told, untold_of}
use Rattle.daemon_core.specs.HouseLog.{IsLegalSo}
use Rattle.daemon_core.specs.Boards.{BoardIsHome, BoardStands, PlaceStands, faulty_ends, is_out}
use Rattle.daemon_core.specs.Housed.{Place}

-- the boot that an event is
pub record FaultBoot (event : Event) : Type 0 where
  pub number : ℕ
  pub time : ℕ
  pub limit : Option ℕ
  pub boards : List BoardSeen
  pub is : event ≡ Event.Boot number time limit Found.Fault boards

pub fault-boot : (event : Event) → is_fault_boot event ≡ true → FaultBoot event
fault-boot (Event.Boot number time limit Found.Fault boards) h = record { number = number; time = time; limit = limit; boards = boards; is = refl }
fault-boot _ h = cc

-- what is said over either rows
pub record SaidOver (facts : Facts) (first : List Seen) (before opening : List Row) (past : List Event) (number : ℕ) : Type 0 where
  pub told : told (basis_of facts opening) past number ≡ told (basis_of facts before) past number
  pub home : home_before (basis_of facts opening) first past number ≡ home_before (basis_of facts before) first past number
  pub since : began_since (basis_of facts opening) first past number ≡ began_since (basis_of facts before) first past number
  pub seen : seen (basis_of facts opening) past number ≡ seen (basis_of facts before) past number
  pub open_on : open_on (basis_of facts opening) past number ≡ open_on (basis_of facts before) past number
  pub open_marks : open_marks (basis_of facts opening) past number ≡ open_marks (basis_of facts before) past number
  pub out : is_out (basis_of facts opening) past number ≡ is_out (basis_of facts before) past number
  pub faults : faulty_ends (basis_of facts opening) past number ≡ faulty_ends (basis_of facts before) past number

pub said-over : (facts : Facts) (first : List Seen) (before opening : List Row) (past : List Event) (number : ℕ) → AllFaults past → SaidOver facts first before opening past number
said-over facts first before opening [] number h = record { told = refl; home = refl; since = refl; seen = refl; open_on = refl; open_marks = refl; out = refl; faults = refl }
said-over facts first before opening (event ∷ past) number h =
    let b : FaultBoot event = fault-boot event h.0 in
    let s : SaidOver facts first before opening past number = said-over facts first before opening past number h.1 in
    let P : Event → Type 0 = λ e. SaidOver facts first before opening (e ∷ past) number in
    subst P (sym b.is) (record {
      told = ap (λ (ms : List Mark). ms ++ untold_of b.boards number) s.told;
      home = ap (λ (x : Seen). home_or (option_map (λ x. x.seen) (slice_get b.boards number)) x) s.home;
      since = rw s.since refl;
      seen = ap (λ (x : Seen). unwrap_or (option_map (λ x. x.seen) (slice_get b.boards number)) x) s.seen;
      open_on = refl;
      open_marks = refl;
      out = refl;
      faults = s.faults;
    })

module _ (facts : Facts) (first : List Seen) (before opening : List Row) (past : List Event) (number : ℕ) (s : SaidOver facts first before opening past number) where
  raw-over : (marks : List Mark) (raw : ℕ) → RawAllowed (basis_of facts before) first past number marks raw → RawAllowed (basis_of facts opening) first past number marks raw
  raw-over marks raw (inl h) = inl (subst (λ (x : Seen). HasRaw x raw) (sym s.home) h)
  raw-over marks raw (inr (inl h)) = inr (inl (h.0, subst (λ (x : Bool). IsTrue (list_any is_began marks || x)) (sym s.since) h.1))
  raw-over marks raw (inr (inr w)) = inr (inr (w.0, w.1, subst (λ (x : List Mark). Contains (x ++ marks) (Mark.Ended w.0 w.1)) (sym s.told) w.2, w.3))

  pub fresh-over : (marks : List Mark) (shown : Seen) → FreshShows (basis_of facts before) first past number marks shown → FreshShows (basis_of facts opening) first past number marks shown
  fresh-over marks shown f = record { raw = λ raw mode e. raw-over marks raw (f.raw raw mode e); mode = f.mode }

  pub listed-over : (plan : BootPlan) (b : BoardSeen) → BoardListed (basis_of facts before) first past plan number b → BoardListed (basis_of facts opening) first past plan number b
  listed-over plan b l =
      record { number = l.number; presence = l.presence; untold = subst (λ (x : List Mark). IsPrefix b.untold x) (sym s.open_marks) l.untold; shown = fresh-over b.untold b.seen l.shown }

  board-over : (b : BoardState) (tail : List Mark) → BoardStands (basis_of facts before) first past number b tail → BoardStands (basis_of facts opening) first past number b tail
  board-over b tail k =
      record {
        fits = record {
          journal = record {
            told_and_tail = k.fits.journal.told_and_tail ∙ ap (λ (x : List Mark). x ++ tail) (sym s.told);
            tail_is = subst (λ (x : List Mark). IsPrefix tail x) (sym s.open_marks) k.fits.journal.tail_is;
          };
          view = λ n z. k.fits.view (sym s.open_on ∙ n) z ∙ sym s.seen;
          unwritten = k.fits.unwritten;
        };
        boots = λ absent. fresh-over tail _ (k.boots absent);
        plugs = λ n. fresh-over [] _ (k.plugs (sym s.open_on ∙ n));
        staged = k.staged;
        faults = subst (λ (n : ℕ). n ≤ b.faults) (sym s.faults) k.faults;
      }

  home-over : (o : Option BoardState) → BoardIsHome (basis_of facts before) first past number o → BoardIsHome (basis_of facts opening) first past number o
  home-over None h = subst (λ (x : Bool). IsTrue x) (sym s.out) h
  home-over (Some b) h = (s.out ∙ h.0, (h.1.0, board-over b h.1.0 h.1.1))

  pub place-over : (place : Place) → PlaceStands (basis_of facts before) first past number place → PlaceStands (basis_of facts opening) first past number place
  place-over place p = record { told = p.told ∙ ap length (sym s.told); home = home-over place.board p.home }

-- so it is legal over any rows
faults-legal : (facts : Facts) (first : List Seen) (plans : List BootPlan) (before opening : List Row) (past : List Event) → AllFaults past
    → IsLegal (campaign_on (basis_of facts before) first plans) past → IsLegal (campaign_on (basis_of facts opening) first plans) past
faults-legal facts first plans before opening [] h l = tt
faults-legal facts first plans before opening (event ∷ past) h l =
    let b : FaultBoot event = fault-boot event h.0 in
    let a : Allowed (campaign_on (basis_of facts before) first plans) past (Event.Boot b.number b.time b.limit Found.Fault b.boards) =
    subst (Allowed (campaign_on (basis_of facts before) first plans) past) b.is l.2 in
    let w = a.1 in (
      faults-legal facts first plans before opening past h.1 l.0,
      l.1,
      subst (Allowed (campaign_on (basis_of facts opening) first plans) past) (sym b.is) (
        a.0,
        record {
          number_is = w.number_is;
          planned = w.planned;
          time_is = w.time_is;
          limit_is = w.limit_is;
          count = w.count;
          listed = λ board x e. listed-over facts first before opening past board (said-over facts first before opening past board h.1) a.0 x (w.listed board x e);
          found_is = tt;
        },
      ),
    )

pub legal-over : (facts : Facts) (first : List Seen) (before opening : List Row) (past : List Event) → AllFaults past → IsLegalSo (basis_of facts before) first past → IsLegalSo (basis_of facts opening) first past
legal-over facts first before opening past h (plans, l) = (plans, faults-legal facts first plans before opening past h l)
