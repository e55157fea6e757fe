use Rattle.std.proofs.Common.{ℕ, List, [], ◌∷◌, ◌++◌, Bool, cond, Option, Some, ap, ◌∙◌}
use Rattle.std.specs.Option.{option_map_or}
use Rattle.std.specs.Str.{bytes_eq}
use Rattle.std.specs.Map.{lookup}
use Rattle.std.specs.declared.alloc.Global.{Global}
use Rattle.std.specs.declared.vec.Vec.{Vec}
use Rattle.release_catalogue.proofs.Indexes.{noted}
use Rattle.release_catalogue.proofs.guid_index.note.Goals as goal

items_of : Option (Vec ℕ Global) → List ℕ
items_of o = option_map_or (λ (v : Vec ℕ Global). v.items) o []

pub returns : goal.returns
unfolding items_of
returns c = λ guid place.
    noted c.args.own guid c.args.at place c.args.index.now.entries c.insert.new.self.entries
    (λ e.
    ap items_of (c.in_ok-insert.ensures.updates.0 guid)
    ∙ ap (λ (b : Bool). items_of (cond b (Some c.push.new.self) (lookup (bytes_eq guid) c.take_places-places.new.index.entries))) e
    ∙ c.in_ok-push.ensures.items
    ∙ ap (λ (l : List ℕ). l ++ c.args.at ∷ []) c.take_places-places.ensures.places)
    (λ e.
    ap items_of (c.in_ok-insert.ensures.updates.0 guid)
    ∙ ap (λ (b : Bool). items_of (cond b (Some c.push.new.self) (lookup (bytes_eq guid) c.take_places-places.new.index.entries))) e
    ∙ c.take_places-places.ensures.others guid e)
