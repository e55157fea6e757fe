use Rattle.std.proofs.Common.{Option, subst, sym, refl}
use Rattle.sqlite.specs.Given.{Advances}
use Rattle.sqlite.specs.Order.{Row as Values}
use Rattle.history_sqlite.proofs.InTurn.{turned}
use Rattle.history_sqlite.proofs.in_turn.read_next.Goals as goal

pub returns-in-Some-clause-turned : goal.returns-in-Some-clause-turned
returns-in-Some-clause-turned g c clean =
    turned g.D.Store c.turn_of.result c.args.shown.now.conn.now c.advance.new.self.conn.now c.args.read.now.items c.turn_of.new.read.items c.in-Some.columns.now
    (subst (λ (o : Option Values). Advances g.D.Store c.args.shown.now.conn.now c.advance.new.self.conn.now o) (sym c.in-Some.ensures) (c.in_ok-advance.ensures.ok clean))
    c.turn_of.ensures.read c.turn_of.ensures.goes_on

pub returns-in-None-clause-turned : goal.returns-in-None-clause-turned
returns-in-None-clause-turned g c clean = (
  subst (λ (o : Option Values). Advances g.D.Store c.args.shown.now.conn.now c.advance.new.self.conn.now o) (sym c.in-None.ensures) (c.in_ok-advance.ensures.ok clean),
  refl,
)
