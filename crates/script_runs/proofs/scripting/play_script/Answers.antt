use Rattle.plugin_trait.specs.Steps.{steps_at}
use Rattle.client_plays.specs.Tools.{means_of}
use Rattle.std.specs.Prelude.{Some, None}
use Rattle.std.proofs.Common.{◌∙◌, arith, false, List, take, drop, suc, subst, refl}
use Rattle.std.proofs.lemmas.List.{take_all}
use Rattle.client_scripts.specs.declared.item.Item.{Item}
use Rattle.client_plays.specs.Plays.{Plays}
use Rattle.client_plays.proofs.ListLaws.{taken-here_is, taken-more_is}
use Rattle.script_runs.specs.Passes.{SoFar, own}
use Rattle.script_runs.proofs.GoingLaws.{more-told, same-plays, so_far-more, so_far-nothing, went-all, went-left}
use Rattle.client_plays.proofs.FaultLaws.{told-both, told-same}
use Rattle.script_runs.proofs.scripting.play_script.Goals as goal

pub play_item-requires-clause-free : goal.play_item-requires-clause-free
play_item-requires-clause-free g c = c.loop-item.invariant.so_far.did.free

pub loop-item-init : goal.loop-item-init
loop-item-init g c =
    let name = g.N.Naming.name in
    record {
      pass = c.requires.pass;
      so_far = so_far-nothing false (Plays name.basis (means_of (g.P.Shelf.files c.args.shelf.now) (steps_at (λ b. (goal.Plugin-dyn g (b.vtable, b.value)).steps b.value) c.args.plugins.now)) c.args.pass.now.number) c.args.pass.now c.requires.free;
      files = refl;
      counts = omega arith;
      told = told-same (own c.args.pass.now) (own c.args.pass.now) (g.P.Shelf.faults c.args.shelf.now) refl;
    }

pub loop-item-preserved : goal.loop-item-preserved
loop-item-preserved g c =
    let name = g.N.Naming.name in
    let item = c.item-item.result in
    let plays = Plays name.basis (means_of (g.P.Shelf.files c.args.shelf.now) (steps_at (λ b. (goal.Plugin-dyn g (b.vtable, b.value)).steps b.value) c.args.plugins.now)) c.args.pass.now.number in
    record {
      pass = c.play_item.ensures.pass;
      so_far = subst (λ (xs : List Item). SoFar c.in-Some.now plays xs c.args.pass.now c.play_item.new.pass)
          (taken-more_is c.args.items.now c.loop-item.item-index item c.item-item.is c.loop-item-test.true)
          (so_far-more c.in-Some.now c.loop-item.wanting plays (take c.loop-item.item-index c.args.items.now) item c.args.pass.now c.loop-item.pass c.play_item.new.pass
          c.loop-item.invariant.so_far
          (same-plays name.basis (steps_at (λ b. (goal.Plugin-dyn g (b.vtable, b.value)).steps b.value) c.args.plugins.now) (Some c.in-Some.now) c.loop-item.wanting item (g.P.Shelf.files c.args.shelf.now) (g.P.Shelf.files c.loop-item.shelf) c.args.pass.now c.loop-item.pass c.play_item.new.pass
          c.loop-item.invariant.files c.loop-item.invariant.so_far.did.same (more-told c.play_item.result (Some c.in-Some.now) c.loop-item.wanting (Plays name.basis (means_of (g.P.Shelf.files c.loop-item.shelf) (steps_at (λ b. (goal.Plugin-dyn g (b.vtable, b.value)).steps b.value) c.args.plugins.now)) c.loop-item.pass.number item) c.loop-item.pass c.play_item.new.pass c.in-Some.ensures c.play_item.ensures.ended)));
      files = c.play_item.ensures.files ∙ c.loop-item.invariant.files;
      counts = omega (arith, c.loop-item.invariant.counts, c.play_item.ensures.counts);
      told = told-both (own c.args.pass.now) (own c.loop-item.pass) (own c.play_item.new.pass) (g.P.Shelf.faults c.args.shelf.now) (g.P.Shelf.faults c.loop-item.shelf) (g.P.Shelf.faults c.play_item.new.shelf)
          c.loop-item.invariant.told c.play_item.ensures.told c.play_item.ensures.counts;
    }

pub returns-in-None-clause-went : goal.returns-in-None-clause-went
returns-in-None-clause-went g c =
    let name = g.N.Naming.name in
    let item = c.item-item.result in
    let plays = Plays name.basis (means_of (g.P.Shelf.files c.args.shelf.now) (steps_at (λ b. (goal.Plugin-dyn g (b.vtable, b.value)).steps b.value) c.args.plugins.now)) c.args.pass.now.number in
    went-left c.loop-item.wanting plays (take c.loop-item.item-index c.args.items.now) item (drop (suc c.loop-item.item-index) c.args.items.now) c.args.items.now
    c.args.pass.now c.loop-item.pass c.play_item.new.pass
    (taken-here_is c.args.items.now c.loop-item.item-index item c.item-item.is c.loop-item-test.true)
    c.loop-item.invariant.so_far
    (same-plays name.basis (steps_at (λ b. (goal.Plugin-dyn g (b.vtable, b.value)).steps b.value) c.args.plugins.now) None c.loop-item.wanting item (g.P.Shelf.files c.args.shelf.now) (g.P.Shelf.files c.loop-item.shelf) c.args.pass.now c.loop-item.pass c.play_item.new.pass
    c.loop-item.invariant.files c.loop-item.invariant.so_far.did.same (more-told c.play_item.result None c.loop-item.wanting (Plays name.basis (means_of (g.P.Shelf.files c.loop-item.shelf) (steps_at (λ b. (goal.Plugin-dyn g (b.vtable, b.value)).steps b.value) c.args.plugins.now)) c.loop-item.pass.number item) c.loop-item.pass c.play_item.new.pass c.in-None.ensures c.play_item.ensures.ended))

pub returns-clause-went : goal.returns-clause-went
returns-clause-went g c =
    let name = g.N.Naming.name in
    let plays = Plays name.basis (means_of (g.P.Shelf.files c.args.shelf.now) (steps_at (λ b. (goal.Plugin-dyn g (b.vtable, b.value)).steps b.value) c.args.plugins.now)) c.args.pass.now.number in
    went-all c.loop-item.wanting plays c.args.items.now c.args.pass.now c.loop-item.pass
    (subst (λ (xs : List Item). SoFar c.loop-item.wanting plays xs c.args.pass.now c.loop-item.pass)
    (take_all c.loop-item.item-index c.args.items.now c.loop-item-test.false) c.loop-item.invariant.so_far)

pub returns-in-None-clause-told : goal.returns-in-None-clause-told
returns-in-None-clause-told g c =
    told-both (own c.args.pass.now) (own c.loop-item.pass) (own c.play_item.new.pass) (g.P.Shelf.faults c.args.shelf.now) (g.P.Shelf.faults c.loop-item.shelf) (g.P.Shelf.faults c.play_item.new.shelf)
    c.loop-item.invariant.told c.play_item.ensures.told c.play_item.ensures.counts
