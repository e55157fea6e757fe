-- The faults that are planned for the boards which a campaign leaves.
use Rattle.std.proofs.Common.{◌≡◌, ℕ, zero, suc, List, [], ◌∷◌, length, map, refl, ap, sym, ◌∙◌, arith}
use Rattle.std.proofs.lemmas.List.{length-map}
use Rattle.std.specs.Prelude.{Option, Some, None, slice_get, unwrap_or}
use Rattle.emulated_boards.specs.Boards.{BoardState}
use Rattle.emulated_boards.specs.declared.fault.PlannedFault.{PlannedFault}
use Rattle.history_keeper.specs.Signs.{KeeperSigns}
use Rattle.daemon_core.specs.House.{IsHouse, place_of}
use Rattle.daemon_core.specs.Housed.{Housed, Place}
use Rattle.daemon_core.specs.Parts.{BoardsOf}
use Rattle.update_log.specs.declared.facts.Facts.{Facts}
use Rattle.daemon_core.specs.Planned.{HavePlans, KeepsPlans, plan_of, plans_in}
use Rattle.daemon_core.proofs.Planned.{plans-picked}

abbrev plan : BoardState → List PlannedFault
plan b = b.plan

-- Of new boards.
pub plans-new : (boards : List BoardState) → plans_in (map place_of boards) ≡ map (λ (b : BoardState). b.plan) boards
plans-new [] = refl
plans-new (b ∷ boards) = ap (λ (ps : List (List PlannedFault)). b.plan ∷ ps) (plans-new boards)

-- Two lists as long that have the same at each place.
some-plan : (a b : List PlannedFault) → Some a ≡ Some b → a ≡ b
some-plan a b e = cc

plans-each : (boards : List BoardState) (plans : List (List PlannedFault)) → length boards ≡ length plans → ((n : ℕ) (b : BoardState) → slice_get boards n ≡ Some b → slice_get plans n ≡ Some b.plan) → map (λ (b : BoardState). b.plan) boards ≡ plans
plans-each [] [] l h = refl
plans-each [] (p ∷ ps) l h = absurd (omega arith)
plans-each (b ∷ bs) [] l h = absurd (omega arith)
plans-each (b ∷ bs) (p ∷ ps) l h =
    ap (λ (x : List PlannedFault). x ∷ map plan bs) (sym (some-plan p b.plan (h zero b refl)))
    ∙ ap (λ (xs : List (List PlannedFault)). p ∷ xs) (plans-each bs ps (omega arith) (λ n x e. h (suc n) x e))

-- The board of a place that is there.
abbrev place-by : Option Place → Place
place-by o = unwrap_or o (record { board = None; told = 0 })

-- Those of a house that kept its plans.
pub boards-planned : {K : Type 0} (signs : KeeperSigns K) (old new : Housed K) (boards : List BoardState) → IsHouse signs old → new.house_log.facts ≡ old.house_log.facts → KeepsPlans old.places new.places → BoardsOf new boards → map (λ (b : BoardState). b.plan) boards ≡ plans_in old.places
boards-planned signs old new boards k f keeps of =
    plans-each boards (plans_in old.places) (of.count ∙ ap (λ (x : Facts). length x.sheets) f ∙ sym k.count ∙ sym (length-map old.places (λ (place : Place). plan_of place.board)))
    (λ n b e.
    let i = of.each n b e in
    have n b (ap (λ (o : Option Place). (place-by o).board) i.place_is ∙ i.board_is))
  where
    have : HavePlans (plans_in old.places) new.places
    have = keeps (plans_in old.places) (plans-picked old.places)
