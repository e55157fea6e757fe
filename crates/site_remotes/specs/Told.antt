-- What a site tells of its remotes.
use Rattle.std.specs.Prelude.{ℕ, List, [], ◌∷◌, length, map}
use Rattle.release_catalogue.specs.Components.{releases_in}
use Rattle.remote_set.specs.declared.remote.Remote.{Remote}
use Rattle.remote_set.specs.Merged.{kept_of, placed_from}
use Rattle.site_remotes.specs.declared.told.SiteRemote.{SiteRemote}

-- A remote as it is stated, of which so many releases stay.
abbrev pub stated : ℕ → Remote → SiteRemote
stated kept remote = record {
  name = remote.name;
  order = remote.order;
  enabled = remote.enabled;
  components = length remote.catalogue;
  releases = releases_in remote.catalogue;
  kept = kept;
}

-- The remotes of a document, each with the number of its releases that stay.
unfoldable pub site_remotes : List Remote → List SiteRemote
site_remotes remotes = map (λ at. stated (kept_of remotes at) at.remote) (placed_from 0 remotes)

-- Numbers put to remotes, one to each.
abbrev pub with_kept : List SiteRemote → List ℕ → List SiteRemote
with_kept [] kept = []
with_kept (remote ∷ remotes) [] = []
with_kept (remote ∷ remotes) (count ∷ kept) = record remote { kept = count } ∷ with_kept remotes kept
