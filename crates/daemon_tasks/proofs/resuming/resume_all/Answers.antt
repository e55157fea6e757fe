use Rattle.plugin_trait.specs.Steps.{steps_at}
use Rattle.std.proofs.Common.{◌∙◌, List, arith, drop, false, get_or, map, refl, subst, suc, take}
use Rattle.std.proofs.lemmas.List.{take_all}
use Rattle.std.specs.Prelude.{None, Some}
use Rattle.client_plays.specs.Plays.{Task, TaskPlays, ToResume}
use Rattle.client_plays.specs.Tools.{means_of}
use Rattle.client_plays.proofs.FaultLaws.{told-both, told-same}
use Rattle.script_runs.specs.Passes.{SoFar, own}
use Rattle.script_runs.proofs.GoingLaws.{more-told, so_far-more, so_far-nothing, went-all, went-left}
use Rattle.daemon_tasks.proofs.Waiting.{resumed-here, resumed-more, same-resumes, wait-turn}
use Rattle.daemon_tasks.proofs.resuming.resume_all.Goals as goal

pub loop-entry-init : goal.loop-entry-init
loop-entry-init g c =
    let name = g.N.Naming.name in
    record {
      pass = c.requires.pass;
      so_far = so_far-nothing false (TaskPlays name.basis (means_of (g.P.Shelf.files c.args.shelf.now) (steps_at (λ b. (goal.Plugin-dyn g (b.vtable, b.value)).steps b.value) c.args.plugins.now))) c.args.pass.now c.requires.free;
      files = refl;
      counts = omega arith;
      told = told-same (own c.args.pass.now) (own c.args.pass.now) (g.P.Shelf.faults c.args.shelf.now) refl;
    }

pub resume_entry-requires-clause-own : goal.resume_entry-requires-clause-own
resume_entry-requires-clause-own g c = c.loop-entry.invariant.so_far.did.same ∙ c.requires.own

pub resume_entry-requires-clause-free : goal.resume_entry-requires-clause-free
resume_entry-requires-clause-free g c = c.loop-entry.invariant.so_far.did.free

pub resume_entry-requires-clause-waits : goal.resume_entry-requires-clause-waits
resume_entry-requires-clause-waits g c =
    let name = g.N.Naming.name in
    let v = c.loop-entry.invariant in
    wait-turn name c.args.runner.now.daemon.now.id c.args.pass.now c.loop-entry.pass c.requires.own c.requires.fresh c.requires.pass v.pass c.args.entries.now c.loop-entry.entry-index c.loop-entry-test.true c.requires.waits c.requires.apart c.loop-entry.wanting
    (means_of (g.P.Shelf.files c.args.shelf.now) (steps_at (λ b. (goal.Plugin-dyn g (b.vtable, b.value)).steps b.value) c.args.plugins.now)) v.so_far

pub loop-entry-preserved : goal.loop-entry-preserved
loop-entry-preserved g c =
    let name = g.N.Naming.name in
    let v = c.loop-entry.invariant in
    let i = c.loop-entry.entry-index in
    let plugins = steps_at (λ b. (goal.Plugin-dyn g (b.vtable, b.value)).steps b.value) c.args.plugins.now in
    let plays = TaskPlays name.basis (means_of (g.P.Shelf.files c.args.shelf.now) plugins) in
    record {
      pass = c.resume_entry.ensures.pass;
      so_far = subst (λ (ts : List Task). SoFar c.in-Some.now plays ts c.args.pass.now c.resume_entry.new.pass) (resumed-more c.args.entries.now i c.loop-entry-test.true)
          (so_far-more c.in-Some.now c.loop-entry.wanting plays (map ToResume (take i c.args.entries.now)) (ToResume (get_or c.args.entries.now i 0)) c.args.pass.now c.loop-entry.pass c.resume_entry.new.pass v.so_far
          (same-resumes name (Some c.in-Some.now) c.loop-entry.wanting (get_or c.args.entries.now i 0) plugins (g.P.Shelf.files c.args.shelf.now) (g.P.Shelf.files c.loop-entry.shelf) c.loop-entry.pass c.resume_entry.new.pass v.files (more-told c.resume_entry.result (Some c.in-Some.now) c.loop-entry.wanting (TaskPlays name.basis (means_of (g.P.Shelf.files c.loop-entry.shelf) plugins) (ToResume (get_or c.args.entries.now i 0))) c.loop-entry.pass c.resume_entry.new.pass c.in-Some.ensures c.resume_entry.ensures.ended)));
      files = c.resume_entry.ensures.files ∙ v.files;
      counts = omega (arith, v.counts, c.resume_entry.ensures.counts);
      told = told-both (own c.args.pass.now) (own c.loop-entry.pass) (own c.resume_entry.new.pass) (g.P.Shelf.faults c.args.shelf.now) (g.P.Shelf.faults c.loop-entry.shelf) (g.P.Shelf.faults c.resume_entry.new.shelf)
          v.told c.resume_entry.ensures.told c.resume_entry.ensures.counts;
    }

pub returns-in-None-clause-went : goal.returns-in-None-clause-went
returns-in-None-clause-went g c =
    let name = g.N.Naming.name in
    let v = c.loop-entry.invariant in
    let i = c.loop-entry.entry-index in
    let plugins = steps_at (λ b. (goal.Plugin-dyn g (b.vtable, b.value)).steps b.value) c.args.plugins.now in
    let plays = TaskPlays name.basis (means_of (g.P.Shelf.files c.args.shelf.now) plugins) in
    went-left c.loop-entry.wanting plays (map ToResume (take i c.args.entries.now)) (ToResume (get_or c.args.entries.now i 0)) (map ToResume (drop (suc i) c.args.entries.now)) (map ToResume c.args.entries.now)
    c.args.pass.now c.loop-entry.pass c.resume_entry.new.pass (resumed-here c.args.entries.now i c.loop-entry-test.true) v.so_far
    (same-resumes name None c.loop-entry.wanting (get_or c.args.entries.now i 0) plugins (g.P.Shelf.files c.args.shelf.now) (g.P.Shelf.files c.loop-entry.shelf) c.loop-entry.pass c.resume_entry.new.pass v.files (more-told c.resume_entry.result None c.loop-entry.wanting (TaskPlays name.basis (means_of (g.P.Shelf.files c.loop-entry.shelf) plugins) (ToResume (get_or c.args.entries.now i 0))) c.loop-entry.pass c.resume_entry.new.pass c.in-None.ensures c.resume_entry.ensures.ended))

pub returns-in-None-clause-files : goal.returns-in-None-clause-files
returns-in-None-clause-files g c = c.resume_entry.ensures.files ∙ c.loop-entry.invariant.files

pub returns-in-None-clause-counts : goal.returns-in-None-clause-counts
returns-in-None-clause-counts g c = omega (arith, c.loop-entry.invariant.counts, c.resume_entry.ensures.counts)

pub returns-in-None-clause-told : goal.returns-in-None-clause-told
returns-in-None-clause-told g c =
    told-both (own c.args.pass.now) (own c.loop-entry.pass) (own c.resume_entry.new.pass) (g.P.Shelf.faults c.args.shelf.now) (g.P.Shelf.faults c.loop-entry.shelf) (g.P.Shelf.faults c.resume_entry.new.shelf)
    c.loop-entry.invariant.told c.resume_entry.ensures.told c.resume_entry.ensures.counts

pub returns-clause-went : goal.returns-clause-went
returns-clause-went g c =
    let name = g.N.Naming.name in
    let plays = TaskPlays name.basis (means_of (g.P.Shelf.files c.args.shelf.now) (steps_at (λ b. (goal.Plugin-dyn g (b.vtable, b.value)).steps b.value) c.args.plugins.now)) in
    went-all c.loop-entry.wanting plays (map ToResume c.args.entries.now) c.args.pass.now c.loop-entry.pass
    (subst (λ (es : List _). SoFar c.loop-entry.wanting plays (map ToResume es) c.args.pass.now c.loop-entry.pass) (take_all c.loop-entry.entry-index c.args.entries.now c.loop-entry-test.false) c.loop-entry.invariant.so_far)

pub returns-clause-told : goal.returns-clause-told
returns-clause-told g c = c.loop-entry.invariant.told
