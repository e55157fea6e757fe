use Rattle.plugin_trait.specs.Steps.{steps_at}
use Rattle.std.proofs.Common.{◌<◌, ℕ, All, List, map, ap, sym, subst, ◌∙◌}
use Rattle.std.specs.List.{range_with_len}
use Rattle.client_plays.specs.Plays.{TaskPlays, ToResume}
use Rattle.client_plays.specs.Tools.{means_of}
use Rattle.turn_lock.specs.Lists.{BeginsWith, beyond}
use Rattle.turn_lock.specs.Shown.{HasItsEntries, IsFresh, PassView}
use Rattle.shared_daemon.specs.declared.entry.Entry.{Entry}
use Rattle.shared_daemon.specs.Closings.{IsFreePass}
use Rattle.shared_daemon.specs.Entries.{chronicle, maker_of}
use Rattle.shared_daemon.specs.Names.{IsPass}
use Rattle.daemon_tasks.proofs.OnePass.{fresh-free}
use Rattle.daemon_tasks.proofs.Resumed.{back-again, one-number, one-pass, only-pass, told-closed, went-closed}
use Rattle.daemon_tasks.proofs.behind.resume_behind.Goals as goal

pub resume_all-wanting-requires-clause-pass : goal.resume_all-wanting-requires-clause-pass
resume_all-wanting-requires-clause-pass g c = only-pass (IsPass c.args.daemon.id g.N.Naming.name) c.args.passes.items c.take_own-own.result c.take_own-own.ensures.own c.requires.passes

pub resume_all-wanting-requires-clause-fresh : goal.resume_all-wanting-requires-clause-fresh
resume_all-wanting-requires-clause-fresh g c = only-pass (IsFresh g.N.Naming.name.start) c.args.passes.items c.take_own-own.result c.take_own-own.ensures.own c.requires.fresh

pub resume_all-wanting-requires-clause-free : goal.resume_all-wanting-requires-clause-free
resume_all-wanting-requires-clause-free g c =
    fresh-free g.N.Naming.name.start c.take_own-own.result c.requires.nothing (only-pass (IsFresh g.N.Naming.name.start) c.args.passes.items c.take_own-own.result c.take_own-own.ensures.own c.requires.fresh)

pub close-house-requires : goal.close-house-requires
close-house-requires g c =
    let items = back-again c.push_reserved.new.self.items c.take_own-own.new.passes.items c.resume_all-wanting.new.pass c.push_reserved.ensures.items c.take_own-own.ensures.none in
    record {
      numbers =
          one-number c.push_reserved.new.self.items c.resume_all-wanting.new.pass items (c.resume_all-wanting.ensures.went.did.same ∙ c.take_own-own.ensures.number)
          ∙ ap (range_with_len 0) (sym c.requires.seats);
      passes = subst (λ (l : List (PassView Entry)). All (IsPass c.args.daemon.id g.N.Naming.name) l) (sym items) (one-pass (IsPass c.args.daemon.id g.N.Naming.name) c.resume_all-wanting.new.pass c.resume_all-wanting.ensures.pass);
      free = subst (λ (l : List (PassView Entry)). All IsFreePass l) (sym items) (one-pass IsFreePass c.resume_all-wanting.new.pass c.resume_all-wanting.ensures.went.did.free);
    }

pub returns-clause-went : goal.returns-clause-went
returns-clause-went g c =
    let items = back-again c.push_reserved.new.self.items c.take_own-own.new.passes.items c.resume_all-wanting.new.pass c.push_reserved.ensures.items c.take_own-own.ensures.none in
    let name = g.N.Naming.name in
    let log : List Entry = chronicle c.close-house.result in
    let first = c.take_own-own.result in
    let last = c.resume_all-wanting.new.pass in
    went-closed name c.args.daemon.id log first last c.take_own-own.ensures.number
    (only-pass (IsPass c.args.daemon.id name) c.args.passes.items first c.take_own-own.ensures.own c.requires.passes) c.resume_all-wanting.ensures.pass
    (only-pass (IsFresh name.start) c.args.passes.items first c.take_own-own.ensures.own c.requires.fresh) c.close-house.ensures.log
    (only-pass (λ (p : PassView Entry). BeginsWith log p.seen) c.push_reserved.new.self.items last items c.close-house.ensures.seen)
    (only-pass (HasItsEntries maker_of name.start log) c.push_reserved.new.self.items last items c.close-house.ensures.mine)
    c.resume_all-wanting.result
    (TaskPlays name.basis (means_of (g.P.Shelf.files c.args.shelf.now) (steps_at (λ b. (goal.Plugin-dyn g (b.vtable, b.value)).steps b.value) c.args.plugins.now))) (map ToResume c.args.entries.now)
    (subst (λ (n : ℕ). All (λ (e : Entry). maker_of e < n) (beyond name.start log)) c.requires.seats c.close-house.ensures.makers) c.resume_all-wanting.ensures.went

pub returns-clause-told : goal.returns-clause-told
returns-clause-told g c =
    let items = back-again c.push_reserved.new.self.items c.take_own-own.new.passes.items c.resume_all-wanting.new.pass c.push_reserved.ensures.items c.take_own-own.ensures.none in
    let name = g.N.Naming.name in
    let log : List Entry = chronicle c.close-house.result in
    let first = c.take_own-own.result in
    let last = c.resume_all-wanting.new.pass in
    told-closed name c.args.daemon.id log first last c.take_own-own.ensures.number
    (only-pass (IsPass c.args.daemon.id name) c.args.passes.items first c.take_own-own.ensures.own c.requires.passes) c.resume_all-wanting.ensures.pass
    (only-pass (IsFresh name.start) c.args.passes.items first c.take_own-own.ensures.own c.requires.fresh) c.close-house.ensures.log
    (only-pass (λ (p : PassView Entry). BeginsWith log p.seen) c.push_reserved.new.self.items last items c.close-house.ensures.seen)
    (only-pass (HasItsEntries maker_of name.start log) c.push_reserved.new.self.items last items c.close-house.ensures.mine)
    c.resume_all-wanting.ensures.went.did.same (g.P.Shelf.faults c.args.shelf.now) (g.P.Shelf.faults c.resume_all-wanting.new.shelf) c.resume_all-wanting.ensures.told
