use Rattle.std.proofs.Common.{◌≡◌, List, [], ◌∷◌, ◌++◌, All, rules, sym, subst}
use Rattle.std.proofs.lemmas.List.Elements.{All-pop, All-push}
use Rattle.turn_lock.specs.Shown.{PassView}
use Rattle.shared_daemon.specs.declared.entry.Entry.{Entry}
use Rattle.shared_daemon.specs.Closings.{IsFreePass}
use Rattle.shared_daemon.specs.Names.{IsPass}
use Rattle.shared_daemon_tests.proofs.days.play_all.Goals as goal

pub returns-clause-passes : goal.returns-clause-passes
returns-clause-passes g c =
    let one : PassView Entry = c.play-told.new.one in
    let two : PassView Entry = c.play-told.new.two in
    let P : PassView Entry → Type 0 = IsPass c.args.daemon.now.id g.N.Naming.name in
    let first = All-pop P c.args.passes.now.items c.pop.new.self.items c.pop.result c.pop.ensures.items c.requires.passes in
    let rest = All-pop P c.pop.new.self.items c.pop-2.new.self.items c.pop-2.result c.pop-2.ensures.items first.0 in
    let front : All P c.pop-2.new.self.items = rest.0 in
    let e : c.push-2.new.self.items ≡ (c.pop-2.new.self.items ++ one ∷ []) ++ two ∷ [] = search rules in
    subst (λ (l : List (PassView Entry)). All P l) (sym e)
    (All-push P (c.pop-2.new.self.items ++ one ∷ []) two (All-push P c.pop-2.new.self.items one front c.play-told.ensures.one) c.play-told.ensures.two)

pub returns-clause-free : goal.returns-clause-free
returns-clause-free g c =
    let one : PassView Entry = c.play-told.new.one in
    let two : PassView Entry = c.play-told.new.two in
    let P : PassView Entry → Type 0 = IsFreePass in
    let first = All-pop P c.args.passes.now.items c.pop.new.self.items c.pop.result c.pop.ensures.items c.requires.free in
    let rest = All-pop P c.pop.new.self.items c.pop-2.new.self.items c.pop-2.result c.pop-2.ensures.items first.0 in
    let front : All P c.pop-2.new.self.items = rest.0 in
    let e : c.push-2.new.self.items ≡ (c.pop-2.new.self.items ++ one ∷ []) ++ two ∷ [] = search rules in
    subst (λ (l : List (PassView Entry)). All P l) (sym e)
    (All-push P (c.pop-2.new.self.items ++ one ∷ []) two (All-push P c.pop-2.new.self.items one front c.play-told.ensures.one_free) c.play-told.ensures.two_free)
