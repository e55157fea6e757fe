-- The number of an entry's board, as it is kept.
use Rattle.std.proofs.Common.{◌≡◌, ℕ, List, [], map, refl, ap, sym, ◌∙◌}
use Rattle.std.specs.Prelude.{Option, Some, None, ◌==◌, Ok}
use Rattle.std.proofs.lemmas.Bool.{eqb-true}
use Rattle.fw_facts.specs.declared.seen.Seen.{Seen}
use Rattle.fw_facts.specs.declared.view.DeviceView.{DeviceView}
use Rattle.history_keeper.specs.declared.row.Row.{Row}
use Rattle.core_state.proofs.CoreTells.{tells-same}
use Rattle.update_log.proofs.Lists.{by_test, eqb-self}
use Rattle.update_log.specs.Boards.{devices}
use Rattle.core_state.specs.Core.{Core, Stands}
use Rattle.core_state.specs.CoreSteps.{board_of_entry}
use Rattle.update_log.specs.Holding.{live}
use Rattle.update_log.specs.Known.{Basis, Known, board_of, for_board, known, views, views_in}
use Rattle.update_log.specs.Pasts.{past_of}
use Rattle.update_log.specs.declared.event.Event.{Event}
use Rattle.update_log.specs.declared.event.Op.{Op}
use Rattle.update_log.specs.declared.facts.Facts.{Facts}
use Rattle.update_log.specs.declared.live.LiveEntry.{LiveEntry}

some-gone : (o : Option Seen) → o ≡ Some Seen.Gone → o ≡ None → ⊥
some-gone o h k = cc

-- Two numbers for which the same is said of every board are the same.
same-number : (o p : Option ℕ) → ((board : ℕ) → for_board o board Seen.Gone ≡ for_board p board Seen.Gone) → o ≡ p
same-number None None h = refl
same-number (Some a) None h = let e : for_board (Some a) a Seen.Gone ≡ Some Seen.Gone = rw (eqb-self a) refl in absurd (some-gone (for_board (Some a) a Seen.Gone) e (h a))
same-number None (Some b) h = let e : for_board (Some b) b Seen.Gone ≡ Some Seen.Gone = rw (eqb-self b) refl in absurd (some-gone (for_board (Some b) b Seen.Gone) e (sym (h b)))
same-number (Some a) (Some b) h =
    by_test (b == a) _
    (λ t. ap Some (sym (eqb-true b a t)))
    (λ f. let e : for_board (Some a) a Seen.Gone ≡ Some Seen.Gone = rw (eqb-self a) refl in
    let n : for_board (Some b) a Seen.Gone ≡ None = rw f refl in
    absurd (some-gone (for_board (Some a) a Seen.Gone) e (h a ∙ n)))

entry-board : (facts : Facts) (entries : List LiveEntry) (known : Known) (entry : ℕ) → board_of_entry (map (λ b. b.number) (devices facts)) (views_in facts entries known) known.rows entry ≡ board_of facts known.rows entry
entry-board facts entries known entry =
    same-number _ _ (λ board. tells-same facts entries known (Event.End 0 entry Op.Prepare (Ok tt) [] Seen.Gone) board)

pub board-kept : (basis : Basis) (core : Core) (entry : ℕ) → Stands basis core → board_of_entry core.boards core.views core.rows entry ≡ board_of basis.facts core.rows entry
board-kept basis core entry s =
    ap (λ (bs : List ℕ). board_of_entry bs core.views core.rows entry) s.boards
    ∙ ap (λ (vs : List DeviceView). board_of_entry (map (λ b. b.number) (devices basis.facts)) vs core.rows entry) s.views
    ∙ ap (λ (rs : List Row). board_of_entry (map (λ b. b.number) (devices basis.facts)) (views basis (past_of core.log)) rs entry) s.rows
    ∙ entry-board basis.facts (live (past_of core.log)) (known basis (past_of core.log)) entry
    ∙ ap (λ (rs : List Row). board_of basis.facts rs entry) (sym s.rows)
