-- The campaign of a site that can be run can begin.
use Rattle.std.proofs.Common.{◌≡◌, ℕ, ◌≤◌, List, [], ◌∷◌, length, map, sym, ap, ◌∙◌, subst}
use Rattle.std.specs.Prelude.{All, Some, slice_get}
use Rattle.std.proofs.lemmas.List.{length-map}
use Rattle.std.proofs.lemmas.List.Elements.{All-cons, All-nil}
use Rattle.std.proofs.lemmas.Option.{get_or_from_slice_get, slice_get_within}
use Rattle.emulated_boards.specs.Boards.{BoardState}
use Rattle.plugin_order.specs.declared.sheet.PluginSheet.{PluginSheet}
use Rattle.update_log.specs.declared.facts.PluginVetoes.{PluginVetoes}
use Rattle.site_types.specs.declared.campaign.Campaign.{Campaign}
use Rattle.site_types.specs.declared.site.Site.{Site}
use Rattle.site_types.specs.declared.site.SiteBoard.{SiteBoard}
use Rattle.site_making.specs.Settled.{Start, new_board, settled_sheet, start_of}
use Rattle.campaign_inputs.specs.Begin.{CanBegin, IsAsMade}
use Rattle.campaign_inputs.specs.Settled.{IsCampaignOf, added_by}

made_one : (b : BoardState) (site_board : SiteBoard) → start_of b ≡ new_board site_board → IsAsMade b
made_one b site_board e = record {
  image = (new_board site_board).condition.image;
  condition = ap (λ (s : Start). s.condition) e;
  journal = ap (λ (s : Start). s.journal) e;
  faults = ap (λ (s : Start). s.faults) e;
}

pub made_all : (boards : List BoardState) (site_boards : List SiteBoard) → map start_of boards ≡ map new_board site_boards → All IsAsMade boards
made_all [] site_boards e = All-nil IsAsMade
made_all (b ∷ boards) [] e = cc
made_all (b ∷ boards) (s ∷ site_boards) e = All-cons IsAsMade b boards (made_one b s (cons_head e)) (made_all boards site_boards (cons_tail e))
  where
    cons_head : {A : Type 0} {x y : A} {xs ys : List A} → x ∷ xs ≡ y ∷ ys → x ≡ y
    cons_head h = cc

    cons_tail : {A : Type 0} {x y : A} {xs ys : List A} → x ∷ xs ≡ y ∷ ys → xs ≡ ys
    cons_tail h = cc

pub can_begin : (site : Site) (sheets : List PluginSheet) (vetoes : List PluginVetoes) (campaign : Campaign) → length site.boards ≤ 256 → IsCampaignOf site sheets vetoes campaign → CanBegin campaign
can_begin site sheets vetoes campaign few h =
    let all_sheets : length campaign.facts.sheets ≡ length site.boards =
    ap length h.facts_sheets ∙ length-map site.boards (λ (board : SiteBoard). settled_sheet site.quirks (added_by sheets h.arrangement) board.sheet) in
    let all_boards : length campaign.boards.items ≡ length site.boards =
    sym (length-map campaign.boards.items start_of) ∙ ap length h.boards ∙ length-map site.boards new_board in
    record {
      few = rw all_sheets few;
      count = all_boards ∙ sym all_sheets;
      made = made_all campaign.boards.items site.boards h.boards;
    }

-- what holds of each holds of the one at a place
pub made_at : (boards : List BoardState) (number : ℕ) (b : BoardState) → All IsAsMade boards → slice_get boards number ≡ Some b → IsAsMade b
made_at boards number b all e = subst IsAsMade (get_or_from_slice_get boards number b b e) (all number b (slice_get_within boards number b e))
