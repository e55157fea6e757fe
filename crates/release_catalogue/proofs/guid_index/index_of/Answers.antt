use Rattle.std.proofs.Common.{ℕ, List, [], ◌∷◌, Bool, false, ◌||◌, ◌&&◌, eqb, sym, ap, ◌∙◌}
use Rattle.std.specs.List.{list_any}
use Rattle.std.specs.Str.{bytes_eq}
use Rattle.release_catalogue.specs.Lookup.{provides}
use Rattle.release_catalogue.specs.Places.{is_listed, provides_at}
use Rattle.release_catalogue.proofs.Indexes.{one_more, provides_here, all_noted}
use Rattle.release_catalogue.proofs.guid_index.index_of.Goals as goal

pub loop-at-preserved : goal.loop-at-preserved
loop-at-preserved c = λ guid place.
    let component = c.index-components-at.result in
    c.in_ok-note_all.ensures guid place
    ∙ ap (λ (l : List (List ℕ)). is_listed guid place c.loop-at.index.entries || (eqb c.loop-at.at place && list_any (λ own. bytes_eq own guid || false) l)) c.items.ensures
    ∙ ap (λ (b : Bool). b || (eqb c.loop-at.at place && provides (guid ∷ []) component)) (c.loop-at.invariant guid place)
    ∙ one_more place c.loop-at.at (provides_at (guid ∷ []) place c.args.components.now) (provides (guid ∷ []) component)
    (λ e. ap (λ (n : ℕ). provides_at (guid ∷ []) n c.args.components.now) (sym e) ∙ provides_here (guid ∷ []) c.args.components.now c.loop-at.at component c.loop-at-test.true c.index-components-at.is)

pub returns : goal.returns
returns c = λ guid place. c.loop-at.invariant guid place ∙ all_noted (guid ∷ []) c.args.components.now place c.loop-at.at c.loop-at-test.false
