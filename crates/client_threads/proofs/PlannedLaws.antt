-- Boots by their plans, and boots played, over events that start no boot.
use Rattle.std.proofs.Common.{◌≡◌, ℕ, Bool, false, List, [], ◌∷◌, ◌++◌, sym, subst}
use Rattle.std.proofs.lemmas.Bool.{or_parts}
use Rattle.std.specs.List.{list_any}
use Rattle.update_log.specs.declared.event.Event.{Event}
use Rattle.update_log.specs.declared.facts.BootPlan.{BootPlan}
use Rattle.update_log.specs.Pasts.{is_boot}
use Rattle.update_log.specs.Known.{Basis}
use Rattle.client_scripts.specs.declared.item.Item.{Item}
use Rattle.client_plays.specs.Moments.{Grew}
use Rattle.client_plays.specs.Scripts.{EarlierPlayed}
use Rattle.client_plays.specs.Tools.{Means}
use Rattle.client_threads.specs.Planned.{BootsPlanned}

planned-one : (plans : List BootPlan) (event : Event) (past : List Event) → is_boot event ≡ false → BootsPlanned plans past → BootsPlanned plans (event ∷ past)
planned-one plans (Event.Boot number time limit found boards) past b p = cc
planned-one plans _ past b p = p

planned-more : (plans : List BootPlan) (more past : List Event) → list_any is_boot more ≡ false → BootsPlanned plans past → BootsPlanned plans (more ++ past)
planned-more plans [] past b p = p
planned-more plans (event ∷ more) past b p =
    let q = or_parts (is_boot event) (list_any is_boot more) b in planned-one plans event (more ++ past) q.0 (planned-more plans more past q.1 p)

pub planned-grown : (plans : List BootPlan) (old new : List Event) → Grew old new → BootsPlanned plans old → BootsPlanned plans new
planned-grown plans old new g p = subst (BootsPlanned plans) (sym g.are) (planned-more plans g.more old g.no_boot p)

earlier-more : (wanting : Bool) (basis : Basis) (means : ℕ → Means) (scripts : List (List (List Item))) (more past : List Event) → list_any is_boot more ≡ false → EarlierPlayed wanting basis means scripts past → EarlierPlayed wanting basis means scripts (more ++ past)
earlier-more wanting basis means scripts [] past b p = p
earlier-more wanting basis means scripts (event ∷ more) past b p =
    let q = or_parts (is_boot event) (list_any is_boot more) b in
    let rest = earlier-more wanting basis means scripts more past q.1 p in
    (rw q.0 tt, rest)

pub earlier-grown : (wanting : Bool) (basis : Basis) (means : ℕ → Means) (scripts : List (List (List Item))) (old new : List Event) → Grew old new → EarlierPlayed wanting basis means scripts old → EarlierPlayed wanting basis means scripts new
earlier-grown wanting basis means scripts old new g p =
    subst (EarlierPlayed wanting basis means scripts) (sym g.are) (earlier-more wanting basis means scripts g.more old g.no_boot p)
