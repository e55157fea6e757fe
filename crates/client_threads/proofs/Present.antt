-- A boot that started each board lists it as planned.
use Rattle.std.proofs.Common.{◌≡◌, ℕ, List, ap, ◌∙◌, sym, subst}
use Rattle.std.specs.Prelude.{IsTrue, Some, if◌then◌else◌, slice_get}
use Rattle.daemon_core.proofs.BootPlaces.{present}
use Rattle.fw_facts.specs.Views.{is_home}
use Rattle.emulated_boards.specs.Conditions.{booted, view_of}
use Rattle.update_log.specs.declared.event.BoardSeen.{BoardSeen}
use Rattle.update_log.specs.declared.facts.BootPlan.{BootPlan}
use Rattle.update_log.specs.Legal.{is_absent, is_gone}
use Rattle.daemon_core.specs.Booting.{StartedAt}
use Rattle.daemon_core.specs.Housed.{Place}

pub started-present : (plan : BootPlan) (n : ℕ) (place : Place) (new : List Place) (listed : List BoardSeen) (b : BoardSeen) → StartedAt plan n place new listed → slice_get listed n ≡ Some b → IsTrue (if is_absent plan n then is_gone b.seen else is_home b.seen)
started-present plan n place new listed b (after, seen, there, here, (was, came, w)) e =
    let same : seen ≡ b = cc in
    let shows : b.seen ≡ view_of (booted (is_absent plan n) was.condition) = ap (λ (s : BoardSeen). s.seen) (sym same) ∙ w.shows ∙ ap view_of w.condition in
    subst (λ (s : _). IsTrue (if is_absent plan n then is_gone s else is_home s)) (sym shows) (present (is_absent plan n) was.condition)
