use Rattle.std.proofs.Common.{◌≡◌, List, [], ◌∷◌, ◌++◌, All, rules, sym, subst}
use Rattle.std.proofs.lemmas.List.Elements.{All-pop, All-push}
use Rattle.turn_lock.specs.Shown.{PassView}
use Rattle.shared_daemon.specs.declared.entry.Entry.{Entry}
use Rattle.shared_daemon.specs.Closings.{IsFreePass}
use Rattle.shared_daemon.specs.Names.{IsPass}
use Rattle.shared_daemon_tests.proofs.own_day.play.Goals as goal

pub returns-clause-passes : goal.returns-clause-passes
returns-clause-passes g c =
    let own : PassView Entry = c.own_turns-answers.new.own in
    let P : PassView Entry → Type 0 = IsPass c.args.daemon.now.id g.N.Naming.name in
    let first = All-pop P c.args.passes.now.items c.pop.new.self.items c.pop.result c.pop.ensures.items c.requires.passes in
    let e : c.push.new.self.items ≡ c.pop.new.self.items ++ own ∷ [] = search rules in
    subst (λ (l : List (PassView Entry)). All P l) (sym e) (All-push P c.pop.new.self.items own first.0 c.own_turns-answers.ensures.pass)

pub returns-clause-free : goal.returns-clause-free
returns-clause-free g c =
    let own : PassView Entry = c.own_turns-answers.new.own in
    let P : PassView Entry → Type 0 = IsFreePass in
    let first = All-pop P c.args.passes.now.items c.pop.new.self.items c.pop.result c.pop.ensures.items c.requires.free in
    let e : c.push.new.self.items ≡ c.pop.new.self.items ++ own ∷ [] = search rules in
    subst (λ (l : List (PassView Entry)). All P l) (sym e) (All-push P c.pop.new.self.items own first.0 c.own_turns-answers.ensures.free)
