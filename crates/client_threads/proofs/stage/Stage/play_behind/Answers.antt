use Rattle.std.proofs.Common.{◌<◌, ◌+◌, ℕ, Bool, All, List, [], length, map, reverse, ap, sym, ◌∙◌, subst, arith}
use Rattle.std.specs.List.{range_with_len}
use Rattle.client_plays.specs.Has.{shelves_told}
use Rattle.client_plays.specs.Shelves.{files_for, means_for}
use Rattle.plugin_trait.specs.Steps.{steps_at}
use Rattle.turn_lock.specs.Lists.{BeginsWith, beyond}
use Rattle.turn_lock.specs.Shown.{HasItsEntries, PassView}
use Rattle.shared_daemon.specs.declared.entry.Entry.{Entry}
use Rattle.shared_daemon.specs.Closings.{IsFreePass}
use Rattle.shared_daemon.specs.Entries.{chronicle, maker_of}
use Rattle.shared_daemon.specs.Names.{IsPass}
use Rattle.shared_daemon.proofs.Closed.{passes-count}
use Rattle.client_threads.specs.declared.clients.Client.{Client}
use Rattle.client_threads.specs.Clients.{PlayedBehind}
use Rattle.client_threads.proofs.Behind.{AllPlayed, Dealt, closing-free, closing-numbers, closing-passes, dealt-so, may-play, played-behind, shelves-behind}
use Rattle.client_threads.proofs.Shelves.{files-client, stay-dealt}
use Rattle.client_threads.proofs.stage.Stage.play_behind.Goals as goal

pub deal_out-own-requires-clause-own : goal.deal_out-own-requires-clause-own
deal_out-own-requires-clause-own g c =
    let n = passes-count g.N.Naming.name [] c.args.passes.items (length c.args.self.now.of_boot.now + 1) c.requires.numbers in omega (arith, n)

pub deal_out-own-requires-clause-room : goal.deal_out-own-requires-clause-room
deal_out-own-requires-clause-room g c =
    let n = passes-count g.N.Naming.name [] c.args.passes.items (length c.args.self.now.of_boot.now + 1) c.requires.numbers in
    let r = c.requires.room in omega (arith, n, r)

pub deal_out-own-requires-clause-shelves : goal.deal_out-own-requires-clause-shelves
deal_out-own-requires-clause-shelves g c =
    let n = passes-count g.N.Naming.name [] c.args.passes.items (length c.args.self.now.of_boot.now + 1) c.requires.numbers in
    let r = c.requires.shelves in omega (arith, n, r)

pub play_all-requires-clause-some : goal.play_all-requires-clause-some
play_all-requires-clause-some g c κs within =
    let d : Dealt c.args.daemon.id g.N.Naming.name c.args.self.now.of_boot.now c.deal_out-own.result c.deal_out-own.new.clients.items =
    dealt-so c.args.daemon.id g.N.Naming.name c.args.self.now.of_boot.now c.deal_out-own.result c.deal_out-own.new.clients.items c.args.passes.items c.deal_out-own.ensures.passes c.requires.numbers c.requires.passes c.requires.fresh in
    let n = d.count in let s = c.requires.some in omega (arith, n, s)

pub play_all-requires-clause-may : goal.play_all-requires-clause-may
play_all-requires-clause-may g c κs within =
    may-play c.args.daemon.id g.N.Naming.name c.args.self.now.of_boot.now c.deal_out-own.result c.deal_out-own.new.clients.items c.requires.nothing
    (dealt-so c.args.daemon.id g.N.Naming.name c.args.self.now.of_boot.now c.deal_out-own.result c.deal_out-own.new.clients.items c.args.passes.items c.deal_out-own.ensures.passes c.requires.numbers c.requires.passes c.requires.fresh)

pub close-house-requires : goal.close-house-requires
close-house-requires g c =
    let a : AllPlayed g.P.Shelf.files (steps_at (λ b. (goal.Plugin-dyn g (b.vtable, b.value)).steps b.value) c.args.self.now.plugins.now) g.P.Shelf.faults c.args.daemon.id g.N.Naming.name c.args.self.now.of_boot.now c.deal_out-own.result c.deal_out-own.new.clients.items c.play_all.new.clients.items =
    record {
      dealt = dealt-so c.args.daemon.id g.N.Naming.name c.args.self.now.of_boot.now c.deal_out-own.result c.deal_out-own.new.clients.items c.args.passes.items c.deal_out-own.ensures.passes c.requires.numbers c.requires.passes c.requires.fresh;
      count = c.play_all.ensures.count;
      played = c.play_all.ensures.played;
    } in
    record {
      numbers =
          ap (map (λ (p : PassView Entry). p.number)) c.take_back-wanting.ensures.passes
          ∙ closing-numbers g.P.Shelf.files (steps_at (λ b. (goal.Plugin-dyn g (b.vtable, b.value)).steps b.value) c.args.self.now.plugins.now) g.P.Shelf.faults c.args.daemon.id g.N.Naming.name c.args.self.now.of_boot.now c.deal_out-own.result c.deal_out-own.new.clients.items c.play_all.new.clients.items a
          ∙ ap (range_with_len 0) (sym c.requires.seats);
      passes =
          subst (λ (l : List (PassView Entry)). All (IsPass c.args.daemon.id g.N.Naming.name) l) (sym c.take_back-wanting.ensures.passes)
          (closing-passes g.P.Shelf.files (steps_at (λ b. (goal.Plugin-dyn g (b.vtable, b.value)).steps b.value) c.args.self.now.plugins.now) g.P.Shelf.faults c.args.daemon.id g.N.Naming.name c.args.self.now.of_boot.now c.deal_out-own.result c.deal_out-own.new.clients.items c.play_all.new.clients.items a);
      free =
          subst (λ (l : List (PassView Entry)). All IsFreePass l) (sym c.take_back-wanting.ensures.passes)
          (closing-free g.P.Shelf.files (steps_at (λ b. (goal.Plugin-dyn g (b.vtable, b.value)).steps b.value) c.args.self.now.plugins.now) g.P.Shelf.faults c.args.daemon.id g.N.Naming.name c.args.self.now.of_boot.now c.deal_out-own.result c.deal_out-own.new.clients.items c.play_all.new.clients.items a c.requires.nothing);
    }

pub returns-clause-played : goal.returns-clause-played
returns-clause-played g c =
    let name = g.N.Naming.name in
    let cs = c.deal_out-own.new.clients.items in
    let ds = c.play_all.new.clients.items in
    let shelves = shelves_told g.P.Shelf.files g.P.Shelf.faults c.args.shelves.now.items in
    let told = files_for shelves in
    let log : List Entry = chronicle c.close-house.result in
    let a : AllPlayed g.P.Shelf.files (steps_at (λ b. (goal.Plugin-dyn g (b.vtable, b.value)).steps b.value) c.args.self.now.plugins.now) g.P.Shelf.faults c.args.daemon.id name c.args.self.now.of_boot.now c.deal_out-own.result cs ds =
    record {
      dealt = dealt-so c.args.daemon.id name c.args.self.now.of_boot.now c.deal_out-own.result cs c.args.passes.items c.deal_out-own.ensures.passes c.requires.numbers c.requires.passes c.requires.fresh;
      count = c.play_all.ensures.count;
      played = c.play_all.ensures.played;
    } in
    subst (λ (w : Bool). PlayedBehind w name (means_for (steps_at (λ b. (goal.Plugin-dyn g (b.vtable, b.value)).steps b.value) c.args.self.now.plugins.now) shelves) c.args.self.now.of_boot.now log) (sym c.take_back-wanting.ensures.wanting)
    (played-behind g.P.Shelf.files (steps_at (λ b. (goal.Plugin-dyn g (b.vtable, b.value)).steps b.value) c.args.self.now.plugins.now) g.P.Shelf.faults c.args.daemon.id name c.args.self.now.of_boot.now c.deal_out-own.result cs ds told log a c.close-house.ensures.log
    (subst (λ (l : List (PassView Entry)). All (λ (p : PassView Entry). BeginsWith log p.seen) l) c.take_back-wanting.ensures.passes c.close-house.ensures.seen)
    (subst (λ (l : List (PassView Entry)). All (HasItsEntries maker_of name.start log) l) c.take_back-wanting.ensures.passes c.close-house.ensures.mine)
    (subst (λ (n : ℕ). All (λ (e : Entry). maker_of e < n) (beyond name.start log)) c.requires.seats c.close-house.ensures.makers)
    (λ i d low. files-client g.P.Shelf.files g.P.Shelf.faults (λ (k : Client g.row.P.Denot). k.shelf) c.args.shelves.now.items (reverse c.deal_out-own.new.shelves.items) cs i d c.deal_out-own.ensures.shelves low))

pub returns-clause-kept : goal.returns-clause-kept
returns-clause-kept g c =
    stay-dealt g.P.Shelf.files g.P.Shelf.faults (λ (k : Client g.row.P.Denot). k.shelf) c.args.shelves.now.items c.take_back-wanting.new.shelves.items (reverse c.deal_out-own.new.shelves.items)
    c.deal_out-own.new.clients.items c.play_all.new.clients.items c.play_all.ensures.count (λ i d low. (c.play_all.ensures.played i d low).shelf) c.deal_out-own.ensures.shelves c.take_back-wanting.ensures.shelves

pub returns-clause-told : goal.returns-clause-told
returns-clause-told g c =
    let name = g.N.Naming.name in
    let cs = c.deal_out-own.new.clients.items in
    let ds = c.play_all.new.clients.items in
    let told = files_for (shelves_told g.P.Shelf.files g.P.Shelf.faults c.args.shelves.now.items) in
    let log : List Entry = chronicle c.close-house.result in
    let a : AllPlayed g.P.Shelf.files (steps_at (λ b. (goal.Plugin-dyn g (b.vtable, b.value)).steps b.value) c.args.self.now.plugins.now) g.P.Shelf.faults c.args.daemon.id name c.args.self.now.of_boot.now c.deal_out-own.result cs ds =
    record {
      dealt = dealt-so c.args.daemon.id name c.args.self.now.of_boot.now c.deal_out-own.result cs c.args.passes.items c.deal_out-own.ensures.passes c.requires.numbers c.requires.passes c.requires.fresh;
      count = c.play_all.ensures.count;
      played = c.play_all.ensures.played;
    } in
    shelves-behind g.P.Shelf.files (steps_at (λ b. (goal.Plugin-dyn g (b.vtable, b.value)).steps b.value) c.args.self.now.plugins.now) g.P.Shelf.faults c.args.daemon.id name c.args.self.now.of_boot.now c.deal_out-own.result cs ds told log a c.close-house.ensures.log
    (subst (λ (l : List (PassView Entry)). All (λ (p : PassView Entry). BeginsWith log p.seen) l) c.take_back-wanting.ensures.passes c.close-house.ensures.seen)
    (subst (λ (l : List (PassView Entry)). All (HasItsEntries maker_of name.start log) l) c.take_back-wanting.ensures.passes c.close-house.ensures.mine)
    (subst (λ (n : ℕ). All (λ (e : Entry). maker_of e < n) (beyond name.start log)) c.requires.seats c.close-house.ensures.makers)
    (λ i d low. files-client g.P.Shelf.files g.P.Shelf.faults (λ (k : Client g.row.P.Denot). k.shelf) c.args.shelves.now.items (reverse c.deal_out-own.new.shelves.items) cs i d c.deal_out-own.ensures.shelves low)
    c.args.shelves.now.items c.take_back-wanting.new.shelves.items (reverse c.deal_out-own.new.shelves.items) c.deal_out-own.ensures.shelves c.take_back-wanting.ensures.shelves
