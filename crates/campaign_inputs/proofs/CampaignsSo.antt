-- The campaign of a site, from what was arranged, started and settled.
use Rattle.std.proofs.Common.{◌≡◌, ℕ, List, [], ◌∷◌, map, refl, sym, ap, ◌∙◌, subst}
use Rattle.std.specs.Prelude.{Option, Some, None, option_map, slice_get}
use Rattle.std.proofs.lemmas.Option.{slice_get-map}
use Rattle.plugin_order.specs.declared.sheet.PluginSheet.{PluginSheet}
use Rattle.plugin_order.specs.declared.arrangement.Arrangement.{Arrangement}
use Rattle.campaign_inputs.specs.Chosen.{AreAt}
use Rattle.plugin_trait.proofs.InTurn.{heads, tails}
use Rattle.update_log.specs.declared.facts.PluginVetoes.{PluginVetoes}
use Rattle.site_types.specs.declared.campaign.Campaign.{Campaign}
use Rattle.site_types.specs.declared.site.Site.{Site}
use Rattle.site_making.specs.Priorities.{Adds, AreEnabledOf, priorities_of, priority_of, running}
use Rattle.site_making.specs.Settled.{IsOfSite, new_board, settled_sheets, start_of}
use Rattle.campaign_inputs.specs.Settled.{IsCampaignOf}

-- ---- what is made of two things that stand at places

joined : {A X Y Z : Type 0} (F : A → X) (G : A → Y) (h : X → Y → Z) (x : X) (y : Y) (o : Option A) → Some x ≡ option_map F o → Some y ≡ option_map G o
    → Some (h x y) ≡ option_map (λ a. h (F a) (G a)) o
joined F G h x y None e1 e2 = cc
joined F G h x y (Some a) e1 e2 = cc

pub joined_at : {A X Y Z : Type 0} (F : A → X) (G : A → Y) (f : A → X) (g : A → Y) (h : X → Y → Z) (all chosen : List A) (ps : List ℕ)
    → AreAt (map F all) ps (map f chosen) → AreAt (map G all) ps (map g chosen) → AreAt (map (λ a. h (F a) (G a)) all) ps (map (λ a. h (f a) (g a)) chosen)
joined_at F G f g h all [] [] e1 e2 = refl
joined_at F G f g h all (c ∷ chosen) [] e1 e2 = cc
joined_at F G f g h all [] (p ∷ ps) e1 e2 = cc
joined_at {X = X} {Y = Y} {Z = Z} F G f g h all (c ∷ chosen) (p ∷ ps) e1 e2 =
    let one : Some (f c) ≡ option_map F (slice_get all p) = heads _ _ _ _ e1 ∙ slice_get-map F all p in
    let two : Some (g c) ≡ option_map G (slice_get all p) = heads _ _ _ _ e2 ∙ slice_get-map G all p in
    let here : Some (h (f c) (g c)) ≡ slice_get (map (λ a. h (F a) (G a)) all) p =
    joined F G h (f c) (g c) (slice_get all p) one two ∙ sym (slice_get-map (λ a. h (F a) (G a)) all p) in
    ap (λ (x : Option Z). x ∷ map Some (map (λ a. h (f a) (g a)) chosen)) here
    ∙ ap (λ (xs : List (Option Z)). slice_get (map (λ a. h (F a) (G a)) all) p ∷ xs)
    (joined_at F G f g h all chosen ps (tails _ _ _ _ e1) (tails _ _ _ _ e2))

-- ---- the campaign

pub campaign_so : (site : Site) (sheets : List PluginSheet) (vetoes : List PluginVetoes) (arrangement : Arrangement) (names : List (List ℕ)) (campaign : Campaign)
    → AreEnabledOf sheets arrangement names → IsOfSite site campaign
    → campaign.facts.sheets ≡ settled_sheets site (priority_of names (priorities_of arrangement))
    → ((name : List ℕ) → Adds sheets arrangement.order name (priority_of names (priorities_of arrangement) name))
    → AreAt vetoes (running arrangement) campaign.facts.vetoes
    → map start_of campaign.boards.items ≡ map new_board site.boards → IsCampaignOf site sheets vetoes campaign
campaign_so site sheets vetoes arrangement names campaign enabled same facts_sheets adds facts_vetoes boards = record {
  arrangement = arrangement;
  possible = enabled.possible;
  arranged = enabled.arranged;
  of_site = same;
  facts_sheets = subst (λ (ns : List (List ℕ)). campaign.facts.sheets ≡ settled_sheets site (priority_of ns (priorities_of arrangement))) enabled.named facts_sheets;
  adds = subst (λ (ns : List (List ℕ)). (name : List ℕ) → Adds sheets arrangement.order name (priority_of ns (priorities_of arrangement) name)) enabled.named adds;
  facts_vetoes = facts_vetoes;
  boards = boards;
}
