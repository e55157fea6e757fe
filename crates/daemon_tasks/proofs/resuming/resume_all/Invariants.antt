use Rattle.plugin_trait.specs.Steps.{steps_at}
use Rattle.std.proofs.Common.{◌≡◌, ◌≤◌, map, take}
use Rattle.client_plays.specs.Faults.{FaultsTold}
use Rattle.client_plays.specs.Plays.{TaskPlays, ToResume}
use Rattle.client_plays.specs.Tools.{means_of}
use Rattle.shared_daemon.specs.Names.{IsPass}
use Rattle.script_runs.specs.Passes.{SoFar, own}
use Rattle.daemon_tasks.proofs.resuming.resume_all.Given as goal

abbrev pub invariant-loop-entry : goal.invariant-loop-entry
invariant-loop-entry g l = record {
  pass : IsPass l.runner.daemon.now.id g.N.Naming.name l.pass;
  so_far : SoFar l.wanting (TaskPlays g.N.Naming.name.basis (means_of (g.P.Shelf.files l.initial.shelf) (steps_at (λ b. (goal.Plugin-dyn g (b.vtable, b.value)).steps b.value) l.plugins))) (map ToResume (take l.entry-index l.entries)) l.initial.pass l.pass;
  files : g.P.Shelf.files l.shelf ≡ g.P.Shelf.files l.initial.shelf;
  counts : g.P.Shelf.faults l.initial.shelf ≤ g.P.Shelf.faults l.shelf;
  told : FaultsTold (own l.initial.pass) (own l.pass) (g.P.Shelf.faults l.initial.shelf) (g.P.Shelf.faults l.shelf);
}
