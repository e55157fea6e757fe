-- Boots that couldn't read the history are played by doing nothing, whatever rows are read later.
use Rattle.std.proofs.Common.{◌≡◌, ℕ, Bool, true, false, List, [], ◌∷◌, refl, sym, subst}
use Rattle.update_log.specs.declared.event.Event.{Event}
use Rattle.update_log.specs.Pasts.{AllFaults, boots, is_boot, is_fault_boot, off}
use Rattle.update_log.specs.Known.{Basis}
use Rattle.client_scripts.specs.declared.item.Item.{Item}
use Rattle.client_plays.specs.Moments.{Moment, began, mine}
use Rattle.client_plays.specs.Plays.{Leaves, Plays, TaskPlays}
use Rattle.client_plays.specs.Scripts.{BootPlayed, EarlierPlayed, PlayedSo, items_of, scripts_in, tasks}
use Rattle.client_plays.specs.Tools.{Means}
use Rattle.client_plays.proofs.BootLaws.{items-none}
use Rattle.client_plays.proofs.IdleLaws.{fresh-idle, none-idle}
use Rattle.client_plays.proofs.OrderLaws.{first-nothing}
use Rattle.client_plays.proofs.PlayLaws.{item-unplayed, task-unplayed}
use Rattle.client_plays.proofs.ScriptLaws.{until-nothing}

-- Such a boot is off, and nobody did anything in it.
fault-boot : (event : Event) (past : List Event) → is_fault_boot event ≡ true → (is_boot event ≡ true) × (off (event ∷ past) ≡ true)
fault-boot (Event.Boot number time limit found boards) past e = (refl, e)
fault-boot _ past e = cc

nothing-mine : (event : Event) (past : List Event) (client : ℕ) → is_boot event ≡ true → mine client (event ∷ past) ≡ []
nothing-mine event past client b = rw b refl

nothing-played : {X : Type 0} (is_off wanting : Bool) (client : ℕ) (Play : X → List Moment → Type 0) (xs : List X) (moments : List Moment) → ((x : X) → Leaves client (Play x) []) → is_off ≡ true → moments ≡ [] → PlayedSo is_off wanting client Play xs moments
nothing-played true wanting client Play xs moments h e m = subst (PlayedSo true wanting client Play xs) (sym m) (until-nothing wanting client Play xs h)
nothing-played false wanting client Play xs moments h e m = cc

-- Before the first boot there is nothing to do.
none-played : (wanting : Bool) (basis : Basis) (means : ℕ → Means) (scripts : List (List (List Item))) → BootPlayed wanting basis means (scripts_in scripts 0) []
none-played wanting basis means scripts =
    record {
      daemon = refl;
      clients = λ client c. subst (λ (xs : List Item). PlayedSo false wanting client (Plays basis (means client) client) xs []) (sym (items-none client)) refl;
      order = tt;
      idle = none-idle;
    }

pub faults-played : (wanting : Bool) (basis : Basis) (means : ℕ → Means) (scripts : List (List (List Item))) (past : List Event) → AllFaults past → BootPlayed wanting basis means (scripts_in scripts (boots past)) past
faults-played wanting basis means scripts [] a = none-played wanting basis means scripts
faults-played wanting basis means scripts (event ∷ past) a =
    let f = fault-boot event past a.0 in
    record {
      daemon = nothing-played (off (event ∷ past)) wanting 0 (TaskPlays basis (means 0)) (tasks basis (began (event ∷ past))) (mine 0 (event ∷ past)) (task-unplayed basis (means 0) 0) f.1 (nothing-mine event past 0 f.0);
      clients = λ client c.
          nothing-played (off (event ∷ past)) wanting client (Plays basis (means client) client) (items_of (scripts_in scripts (boots (event ∷ past))) client) (mine client (event ∷ past))
          (item-unplayed basis (means client) client) f.1 (nothing-mine event past client f.0);
      order = first-nothing (event ∷ past) (nothing-mine event past 0 f.0);
      idle = fresh-idle event past f.0;
    }

pub faults-earlier : (wanting : Bool) (basis : Basis) (means : ℕ → Means) (scripts : List (List (List Item))) (past : List Event) → AllFaults past → EarlierPlayed wanting basis means scripts past
faults-earlier wanting basis means scripts [] a = tt
faults-earlier wanting basis means scripts (event ∷ past) a =
    let f = fault-boot event past a.0 in
    (rw f.0 (faults-played wanting basis means scripts past a.1), faults-earlier wanting basis means scripts past a.1)
