-- What the clients of a boot did to a house, round which their daemon began and closed.
use Rattle.std.proofs.Common.{◌≡◌, ℕ, Bool, true, List, [], refl, ap, sym, ◌∙◌, subst}
use Rattle.history_keeper.specs.declared.row.Row.{Row}
use Rattle.history_keeper.specs.Signs.{KeeperSigns}
use Rattle.update_log.specs.declared.event.Event.{Event}
use Rattle.update_log.specs.declared.facts.Facts.{Facts}
use Rattle.update_log.specs.Pasts.{off}
use Rattle.update_log.specs.Known.{basis_of}
use Rattle.daemon_core.specs.HouseLog.{IsHouseLog}
use Rattle.daemon_core.specs.Housed.{basis_in, Housed, past, rows_before}
use Rattle.daemon_core.specs.Parts.{AllHome}
use Rattle.client_scripts.specs.declared.item.Item.{Item}
use Rattle.client_plays.specs.Endings.{IsIdle}
use Rattle.client_plays.specs.Faults.{ShelvesCount}
use Rattle.client_plays.specs.Moments.{Grew, NoClients, mine}
use Rattle.client_plays.specs.Plays.{Plays}
use Rattle.client_plays.specs.Scripts.{PlayedSo, items_of}
use Rattle.client_plays.specs.Tools.{Means, ShelfTold}
use Rattle.client_plays.proofs.MomentLaws.{grew-nothing}
use Rattle.client_plays.proofs.RestLaws.{rest-here}
use Rattle.shared_daemon.specs.Entries.{chronicle, past_seen}
use Rattle.shared_daemon.specs.Names.{HasNothing, IsLogOf, KeepsName, Name}
use Rattle.daemon_tasks.specs.Begins.{CanBegin, IsNameOf}
use Rattle.daemon_tasks.proofs.Closing.{new-past, old-past, rest-so, rows-so}
use Rattle.daemon_tasks.proofs.Pasts.{log-grew}
use Rattle.client_threads.specs.Clients.{ClientsPlayed, PlayedBehind}
use Rattle.client_threads.proofs.ShelfFaults.{count-closed}
use Rattle.client_threads.proofs.Plays.{items-beyond, left-off, left-wanting, nothing-so}

module _ {K : Type 0} (signs : KeeperSigns K) where
  -- The daemon closed.
  module _ (name : Name) (old new : Housed K) (e : IsNameOf signs name old) (b : CanBegin signs old) (k : IsHouseLog old.house_log) (w : IsHouseLog new.house_log) (n : KeepsName signs name new) where
    begun : past_seen name.start ≡ past old
    begun = old-past signs name old e b k

    closed : past_seen (chronicle new) ≡ past new
    closed = new-past signs name old e b k new w n

    pub shelves-counted : (was now : List ShelfTold) → ShelvesCount (past_seen name.start) (past_seen (chronicle new)) was now → ShelvesCount (past old) (past new) was now
    shelves-counted was now c = count-closed (past_seen name.start) (past_seen (chronicle new)) (past old) (past new) was now begun closed c

    pub clients-played : AllHome old.places → (wanting : Bool) (means : ℕ → Means) (of_boot : List (List Item)) → IsLogOf name name.start → IsLogOf name (chronicle new) → HasNothing (chronicle new) → NoClients (past old) → PlayedBehind wanting name means of_boot (chronicle new) → ClientsPlayed signs wanting means of_boot old new
    clients-played home wanting means of_boot s l nothing none p =
        record {
          daemon = ap (mine 0) (sym closed) ∙ p.daemon ∙ ap (mine 0) begun;
          clients = λ client c.
              let P : Facts → List Row → List Event → Type 0 = λ f o es. PlayedSo (off es) wanting client (Plays (basis_of f o) (means client) client) (items_of of_boot client) (mine client es) in
              subst (λ (f : Facts). P f (rows_before old.house_log) (past new)) e.facts_are
              (subst (λ (o : List Row). P name.basis.facts o (past new)) (rows-so signs name old e b k)
              (subst (λ (es : List Event). P name.basis.facts name.basis.opening es) closed
              (p.clients client c (ap (mine client) begun ∙ none client c))));
          grew = subst (λ (es : List Event). Grew es (past new)) begun (subst (λ (es : List Event). Grew (past_seen name.start) es) closed (log-grew name (chronicle new) s l));
          rest = rest-so signs name old e b k new w n home nothing;
        }

  -- Nothing was done.
  module _ (means : ℕ → Means) (of_boot : List (List Item)) (h : Housed K) (i : IsIdle (past h)) (none : NoClients (past h)) where
    pub no-clients : (wanting : Bool) → of_boot ≡ [] → ClientsPlayed signs wanting means of_boot h h
    no-clients wanting e =
        record {
          daemon = refl;
          clients = λ client c.
              nothing-so (off (past h)) wanting client (Plays (basis_in h.house_log) (means client) client) (items_of of_boot client) (mine client (past h))
              (ap (λ (all : List (List Item)). items_of all client) e ∙ items-beyond [] client c) (none client c);
          grew = grew-nothing (past h);
          rest = rest-here signs h i;
        }

    pub clients-off : (wanting : Bool) → off (past h) ≡ true → ClientsPlayed signs wanting means of_boot h h
    clients-off wanting o =
        record {
          daemon = refl;
          clients = λ client c.
              left-off (basis_in h.house_log) (means client) client (items_of of_boot client) (mine client (past h)) (off (past h)) wanting o (none client c);
          grew = grew-nothing (past h);
          rest = rest-here signs h i;
        }

    pub clients-left : ClientsPlayed signs true means of_boot h h
    clients-left =
        record {
          daemon = refl;
          clients = λ client c.
              left-wanting (basis_in h.house_log) (means client) client (items_of of_boot client) (mine client (past h)) (off (past h)) (none client c);
          grew = grew-nothing (past h);
          rest = rest-here signs h i;
        }
