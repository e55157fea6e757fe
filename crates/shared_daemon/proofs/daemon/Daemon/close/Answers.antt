use Rattle.std.proofs.Common.{All, ◌<◌, List, [], ap, sym, ◌∙◌, subst}
use Rattle.history_keeper.specs.Signs.{signs_of}
use Rattle.daemon_core.specs.HouseLog.{IsHouseLog}
use Rattle.daemon_core.specs.House.{IsHouse}
use Rattle.daemon_core.specs.Housed.{Housed}
use Rattle.turn_lock.specs.Lists.{BeginsWith, beyond}
use Rattle.turn_lock.specs.Shown.{HasItsEntries, LockView, PassView}
use Rattle.shared_daemon.specs.declared.entry.Entry.{Entry}
use Rattle.shared_daemon.specs.Entries.{chronicle, maker_of}
use Rattle.shared_daemon.specs.Names.{HasNothing, IsLogOf}
use Rattle.shared_daemon.proofs.Closed.{free-left, home-left, nothing-left, passes-count}
use Rattle.shared_daemon.proofs.Seeing.{log-named}
use Rattle.shared_daemon.proofs.daemon.Daemon.close.Goals as goal

pub close-named-requires-clause-all : goal.close-named-requires-clause-all
close-named-requires-clause-all g c = passes-count g.N.Naming.name [] c.args.passes.items c.args.self.seats c.requires.numbers ∙ ap (λ (l : LockView Entry). l.seats) (sym c.self.view_is)

pub returns-clause-log : goal.returns-clause-log
returns-clause-log g c =
    subst (λ (h : Housed g.row.K.Denot). IsLogOf g.N.Naming.name (chronicle h)) (sym c.into_house.ensures.same)
    (log-named (signs_of g.K.Keeper.tells g.K.Keeper.doubt g.K.Keeper.faults) g.N.Naming.name c.close-named.result c.known.ensures.name c.known.ensures.house_log
    (subst (λ (l : List Entry). BeginsWith (chronicle c.close-named.result) l) c.self.invariant.start c.close-named.ensures.begins))

pub returns-clause-seen : goal.returns-clause-seen
returns-clause-seen g c =
    subst (λ (h : Housed g.row.K.Denot). All (λ (p : PassView Entry). BeginsWith (chronicle h) p.seen) c.args.passes.items) (sym c.into_house.ensures.same) c.close-named.ensures.seen

pub returns-clause-makers : goal.returns-clause-makers
returns-clause-makers g c =
    let log : List Entry = chronicle c.close-named.result in
    subst (λ (h : Housed g.row.K.Denot). All (λ (e : Entry). maker_of e < c.args.self.seats) (beyond g.N.Naming.name.start (chronicle h))) (sym c.into_house.ensures.same)
    (subst (λ (k : LockView Entry). All (λ (e : Entry). maker_of e < k.seats) (beyond g.N.Naming.name.start log)) c.self.view_is
    (subst (λ (l : List Entry). All (λ (e : Entry). maker_of e < c.self.inside.lock.seats) (beyond l log)) c.self.invariant.start c.close-named.ensures.makers))

pub returns-clause-nothing : goal.returns-clause-nothing
returns-clause-nothing g c =
    let log : List Entry = chronicle c.close-named.result in
    let begins : BeginsWith log g.N.Naming.name.start = subst (λ (l : List Entry). BeginsWith log l) c.self.invariant.start c.close-named.ensures.begins in
    subst (λ (h : Housed g.row.K.Denot). HasNothing (chronicle h)) (sym c.into_house.ensures.same)
    (nothing-left g.N.Naming.name log c.args.self.id c.args.passes.items c.args.self.seats
    (log-named (signs_of g.K.Keeper.tells g.K.Keeper.doubt g.K.Keeper.faults) g.N.Naming.name c.close-named.result c.known.ensures.name c.known.ensures.house_log begins)
    c.self.invariant.log c.self.invariant.nothing c.requires.numbers c.requires.passes c.requires.free c.close-named.ensures.seen
    (subst (λ (l : List Entry). All (HasItsEntries maker_of l log) c.args.passes.items) c.self.invariant.start c.close-named.ensures.mine)
    (subst (λ (k : LockView Entry). All (λ (e : Entry). maker_of e < k.seats) (beyond g.N.Naming.name.start log)) c.self.view_is
    (subst (λ (l : List Entry). All (λ (e : Entry). maker_of e < c.self.inside.lock.seats) (beyond l log)) c.self.invariant.start c.close-named.ensures.makers)))

pub returns-clause-home : goal.returns-clause-home
returns-clause-home g c =
    home-left (signs_of g.K.Keeper.tells g.K.Keeper.doubt g.K.Keeper.faults) c.into_house.result
    (subst (λ (h : Housed g.row.K.Denot). IsHouseLog h.house_log) (sym c.into_house.ensures.same) c.known.ensures.house_log)
    (subst (λ (h : Housed g.row.K.Denot). IsHouse (signs_of g.K.Keeper.tells g.K.Keeper.doubt g.K.Keeper.faults) h) (sym c.into_house.ensures.same) c.known.ensures.house)
    (returns-clause-nothing g c)

pub returns-clause-blocks : goal.returns-clause-blocks
returns-clause-blocks g c =
    free-left (signs_of g.K.Keeper.tells g.K.Keeper.doubt g.K.Keeper.faults) c.into_house.result
    (subst (λ (h : Housed g.row.K.Denot). IsHouseLog h.house_log) (sym c.into_house.ensures.same) c.known.ensures.house_log)
    (subst (λ (h : Housed g.row.K.Denot). IsHouse (signs_of g.K.Keeper.tells g.K.Keeper.doubt g.K.Keeper.faults) h) (sym c.into_house.ensures.same) c.known.ensures.house)
    (returns-clause-nothing g c)
