use Rattle.std.proofs.Common.{refl}
use Rattle.std.specs.Prelude.{Some, None}
use Rattle.fw_facts.specs.Views.{guids_of}
use Rattle.release_catalogue.specs.Lookup.{Chosen}
use Rattle.update_log.proofs.Placed.{component-within, found-with, none-chosen, release-within}
use Rattle.update_log.proofs.Targets.{at-index, target-by}
use Rattle.request_verdicts.proofs.target.target_at.Goals as goal

pub component-component-requires : goal.component-component-requires
component-component-requires c = component-within c.args.facts.now.catalogue (guids_of c.index-views-place.result) c.args.version.now c.in-Some.at (rw c.guids.ensures at c.in-Some.ensures)

pub bounds-items-at : goal.bounds-items-at
bounds-items-at c =
    rw c.items.ensures (release-within c.args.facts.now.catalogue (guids_of c.index-views-place.result) c.args.version.now c.in-Some.at c.component-component.result.now (rw c.guids.ensures at c.in-Some.ensures) c.component-component.ensures)

pub returns-in-None-clause-exact : goal.returns-in-None-clause-exact
returns-in-None-clause-exact c =
    let view = at-index c.args.views.now c.args.place c.index-views-place.result c.requires.place c.index-views-place.is in
    target-by c.args.facts.now c.args.views.now c.args.version.now c.args.place c.index-views-place.result None view
    (none-chosen c.args.facts.now.catalogue (guids_of c.index-views-place.result) c.args.version.now (rw c.guids.ensures at c.in-None.ensures))

pub returns-in-Some-clause-exact : goal.returns-in-Some-clause-exact
returns-in-Some-clause-exact c =
    let view = at-index c.args.views.now c.args.place c.index-views-place.result c.requires.place c.index-views-place.is in
    let within = release-within c.args.facts.now.catalogue (guids_of c.index-views-place.result) c.args.version.now c.in-Some.at c.component-component.result.now (rw c.guids.ensures at c.in-Some.ensures) c.component-component.ensures in
    let release = at-index c.component-component.result.now.releases c.in-Some.at.release c.index-items-at.result within (rw c.items.ensures at c.index-items-at.is) in
    let found : Chosen = record { at = c.in-Some.at; component = c.component-component.result.now; release = c.index-items-at.result } in
    target-by c.args.facts.now c.args.views.now c.args.version.now c.args.place c.index-views-place.result (Some found) view
    (found-with c.args.facts.now.catalogue (guids_of c.index-views-place.result) c.args.version.now c.in-Some.at c.component-component.result.now c.index-items-at.result (rw c.guids.ensures at c.in-Some.ensures) c.component-component.ensures release)

pub returns-in-Some-clause-place : goal.returns-in-Some-clause-place
returns-in-Some-clause-place c =
    (refl, at-index c.args.views.now c.args.place c.index-views-place.result c.requires.place c.index-views-place.is)
