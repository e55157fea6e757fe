use Rattle.std.proofs.Common.{ℕ, List, [], Option, eqb, sym, ap, ◌∙◌}
use Rattle.std.specs.List.{list_any}
use Rattle.std.specs.Option.{option_map_or}
use Rattle.std.specs.declared.alloc.Global.{Global}
use Rattle.std.specs.declared.vec.Vec.{Vec}
use Rattle.release_catalogue.proofs.guid_index.mark_guid.Goals as goal

pub mark-requires : goal.mark-requires
mark-requires c = λ place h.
    c.requires place
    (ap (λ (o : Option (Vec ℕ Global)). list_any (λ n. eqb n place) (option_map_or (λ v. v.items) o [])) (sym c.in-Some.ensures.value)
    ∙ ap (λ (l : List ℕ). list_any (λ n. eqb n place) l) (sym c.deref.ensures.value) ∙ h)
