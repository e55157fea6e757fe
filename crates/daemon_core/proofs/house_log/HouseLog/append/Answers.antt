use Rattle.std.proofs.Common.{◌≤◌, ◌+◌, ◌-◌, ◌∷◌, [], ◌++◌, List, length, ap, sym, ◌∙◌, subst, arith, min}
use Rattle.std.specs.Prelude.{vec_len, vec_capacity}
use Rattle.history_keeper.specs.declared.row.Row.{Row}
use Rattle.core_state.specs.Core.{Stands}
use Rattle.update_log.specs.Legal.{IsNext}
use Rattle.update_log.specs.Known.{basis_of, rows}
use Rattle.update_log.specs.declared.facts.Facts.{Facts}
use Rattle.daemon_core.specs.HouseLog.{Appended, IsHouseLog, IsLegalSo}
use Rattle.daemon_core.specs.Housed.{HouseLogView, past_in, rows_before}
use Rattle.daemon_core.specs.Openings.{house_log_of, is_taken, opening_in}
use Rattle.daemon_core.proofs.HouseLogKept.{house_log-after}
use Rattle.daemon_core.proofs.NextSo.{next_so}
use Rattle.daemon_core.proofs.OpeningKept.{opening-kept, opening-still}
use Rattle.daemon_core.proofs.house_log.HouseLog.append.Goals as goal
use Rattle.daemon_core.proofs.house_log.HouseLog.append.Given.{Over}

-- The house log as it is at the end.
abbrev now_of : (g : Over) → goal.After-push_reserved g → HouseLogView
now_of g c =
    record {
      facts = c.self.inside.facts;
      first = c.self.inside.first.items;
      opening = opening_in c.self.inside.opening c.step.new.state.rows;
      loaded = is_taken c.self.inside.opening;
      reopened = c.self.inside.reopened;
      core = c.step.new.state;
      makers = c.push_reserved.new.self.items;
      room = min c.step.new.state.room (vec_capacity c.push_reserved.new.self - vec_len c.push_reserved.new.self);
    }

-- What stands for the log with the event.
stood : (g : Over) (c : goal.After-push_reserved g) → Stands (basis_of c.self.inside.facts (rows_before (house_log_of c.self.inside))) c.step.new.state
stood g c = subst (λ (o : List Row). Stands (basis_of c.self.inside.facts o) c.step.new.state) (sym (ap (λ (a : HouseLogView). rows_before a) c.self.view_is ∙ c.requires.0)) c.step.ensures.stands

grown : (g : Over) (c : goal.After-push_reserved g) → Appended c.args.client c.args.event c.args.self.now (now_of g c)
grown g c =
    record {
      same = record {
        facts = ap (λ (a : HouseLogView). a.facts) c.self.view_is;
        first = ap (λ (a : HouseLogView). a.first) c.self.view_is;
        opening =
            opening-kept c.self.inside.opening c.self.inside.facts c.self.inside.core.rows c.step.new.state c.self.invariant.opening (stood g c)
            ∙ ap (λ (a : HouseLogView). a.opening) c.self.view_is;
        loaded = ap (λ (a : HouseLogView). a.loaded) c.self.view_is;
        reopened = ap (λ (a : HouseLogView). a.reopened) c.self.view_is;
      };
      log = c.step.ensures.log ∙ ap (λ (a : HouseLogView). a.core.log ++ c.args.event ∷ []) c.self.view_is;
      makers = c.push_reserved.ensures.items ∙ ap (λ (a : HouseLogView). a.makers ++ c.args.client ∷ []) c.self.view_is;
    }

roomy : (g : Over) (c : goal.After-push_reserved g) → c.args.self.now.room ≤ (now_of g c).room + 1
roomy g c =
    let v = ap (λ (a : HouseLogView). a.room) c.self.view_is in
    let s = c.step.ensures.room in
    let l = c.push_reserved.ensures.len in
    let k = c.push_reserved.ensures.capacity in
    omega (arith, v, s, l, k)

kept : (g : Over) (c : goal.After-push_reserved g) → IsHouseLog (now_of g c)
kept g c =
    house_log-after c.args.client c.args.event c.args.self.now (now_of g c)
    (subst IsHouseLog c.self.view_is c.self.invariant.house_log)
    (grown g c)
    (record {
      legal = subst (λ (o : List Row). IsLegalSo (basis_of c.args.self.now.facts o) c.args.self.now.first (c.args.event ∷ past_in c.args.self.now)) (sym c.requires.0) c.requires.1.0;
      stands =
          subst (λ (f : Facts). Stands (basis_of f (rows_before c.args.self.now)) c.step.new.state) (ap (λ (a : HouseLogView). a.facts) c.self.view_is)
          (subst (λ (o : List Row). Stands (basis_of c.self.inside.facts o) c.step.new.state) (sym c.requires.0) c.step.ensures.stands);
      made = c.requires.1.1.0;
      unloaded = c.requires.1.1.1.1.1.0;
      owed_room = c.requires.1.1.1.0;
      room = roomy g c;
      few_boots = c.requires.1.1.1.1.1.1.0;
      timely = c.requires.1.1.1.1.1.1.1;
    })

pub step-requires : goal.step-requires
step-requires g c =
    let v = ap (λ (a : HouseLogView). a.room) c.self.view_is in
    let r = c.requires.1.1.1.0 in (
      subst (λ (o : List Row). Stands (basis_of c.self.inside.facts o) c.self.inside.core) (ap (λ (a : HouseLogView). rows_before a) c.self.view_is ∙ c.requires.0) c.self.invariant.house_log.stands,
      (
        subst (λ (a : HouseLogView). IsNext (basis_of a.facts g.before) (past_in a) c.args.event) (sym c.self.view_is) (next_so (basis_of c.args.self.now.facts g.before) c.args.self.now.first (past_in c.args.self.now) c.args.event c.requires.1.0),
        (
          omega (arith, v, r),
          subst (λ (a : HouseLogView). length (rows (basis_of a.facts g.before) (c.args.event ∷ past_in a)) ≤ length a.core.rows + a.core.row_room) (sym c.self.view_is) c.requires.1.1.1.1.0,
        ),
      ),
    )

pub invariant_of-self : goal.invariant_of-self
invariant_of-self g c = record {
  house_log = kept g c;
  opening = opening-still c.self.inside.opening c.self.inside.facts c.self.inside.core.rows c.step.new.state c.self.invariant.opening (stood g c);
}

pub returns-clause-appended : goal.returns-clause-appended
returns-clause-appended g c = grown g c

pub returns-clause-known : goal.returns-clause-known
returns-clause-known g c = kept g c
