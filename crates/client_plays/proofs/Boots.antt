-- Boots that do what they are to do.
use Rattle.std.proofs.Common.{◌≡◌, ℕ, Bool, true, List, [], ◌∷◌, ◌++◌, append_assoc, sym, ◌∙◌, subst, inl, inr}
use Rattle.std.specs.Prelude.{MatchBool}
use Rattle.update_log.specs.declared.event.Event.{Event}
use Rattle.update_log.specs.Legal.{IsLegal, Legal}
use Rattle.update_log.specs.Pasts.{boots, is_boot, off, past_of}
use Rattle.update_log.specs.Shows.{Campaign}
use Rattle.update_log.specs.Known.{Basis}
use Rattle.client_scripts.specs.declared.item.Item.{Item}
use Rattle.client_plays.specs.Moments.{began, mine}
use Rattle.client_plays.specs.Scripts.{BootPlayed, EarlierPlayed, Script, items_of, scripts_in, tasks}
use Rattle.client_plays.specs.Tools.{Means}
use Rattle.client_plays.specs.Installs.{BootCompletes, EndsBoot}
use Rattle.client_plays.proofs.Begun.{items-begun, tasks-begun}
use Rattle.client_plays.proofs.Completing.{install-comes, put-off, resumption-comes}
use Rattle.client_plays.proofs.Standing.{legal-front}
use Rattle.client_plays.proofs.Told.{items-told, tasks-told}

pub boot-completes : (wanting : Bool) (c : Campaign) (means : ℕ → Means) (of_boot : List (List Item)) (past : List Event)
    → IsLegal c past → BootPlayed wanting c.basis means of_boot past → BootCompletes wanting c.basis (λ client. (means client).files) of_boot past
boot-completes wanting c means of_boot past legal played =
    record {
      begun = λ client above. items-begun c.basis (means client) client (off past) wanting (items_of of_boot client) (mine client past) (played.clients client above);
      installs = λ client request answer stands above accept.
          install-comes c past (means client).files wanting client legal played.idle
          (items-told c.basis (means client) client (off past) wanting (items_of of_boot client) (mine client past) (played.clients client above))
          request answer stands above accept;
      put_off = λ client request answer stands accept. put-off c past legal client request answer stands accept;
      resumed = tasks-begun c.basis (means 0) (off past) wanting (began past) (mine 0 past) played.daemon;
      resumptions = λ entry request answer stands accept.
          resumption-comes c past (means 0).files wanting legal played.idle
          (tasks-told c.basis (means 0) (off past) wanting (tasks c.basis (began past)) (mine 0 past) played.daemon)
          entry request answer stands accept;
    }

-- ---- each boot of a campaign

earlier-at : (wanting : Bool) (basis : Basis) (means : ℕ → Means) (scripts : List (List (List Item))) (newer : List Event) (boot : Event) (past : List Event) → is_boot boot ≡ true
    → EarlierPlayed wanting basis means scripts (newer ++ boot ∷ past) → BootPlayed wanting basis means (scripts_in scripts (boots past)) past
earlier-at wanting basis means scripts [] boot past b p =
    subst (λ (x : Bool). MatchBool x (BootPlayed wanting basis means (scripts_in scripts (boots past)) past) (Unit {0})) b p.0
earlier-at wanting basis means scripts (event ∷ newer) boot past b p = earlier-at wanting basis means scripts newer boot past b p.1

pub campaign-completes : (wanting : Bool) (c : Campaign) (means : ℕ → Means) (scripts : List (List (List Item))) (log past : List Event)
    → Legal c log → Script wanting c.basis means scripts log → EndsBoot (past_of log) past → BootCompletes wanting c.basis (λ client. (means client).files) (scripts_in scripts (boots past)) past
campaign-completes wanting c means scripts log past legal played ends =
    elim ends [
      | inl whole ↦
          boot-completes wanting c means (scripts_in scripts (boots past)) past (subst (IsLegal c) (sym whole) legal)
          (subst (λ (p : List Event). BootPlayed wanting c.basis means (scripts_in scripts (boots p)) p) (sym whole) played.0)
      | inr e ↦
          boot-completes wanting c means (scripts_in scripts (boots past)) past
          (legal-front c (e.0 ++ e.1 ∷ []) past (subst (IsLegal c) (e.3 ∙ sym (append_assoc e.0 (e.1 ∷ []) past)) legal))
          (earlier-at wanting c.basis means scripts e.0 e.1 past e.2 (subst (EarlierPlayed wanting c.basis means scripts) e.3 played.1))
    ]
