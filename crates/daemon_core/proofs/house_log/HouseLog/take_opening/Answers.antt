use Rattle.std.proofs.Common.{◌≡◌, ◌-◌, false, List, map, refl, ap, sym, ◌∙◌, subst, vec_len, vec_capacity}
use Rattle.history_keeper.specs.declared.row.Row.{Row}
use Rattle.row_index.specs.Formers.{as_were, former_of}
use Rattle.core_state.specs.Core.{Core}
use Rattle.daemon_core.specs.Booting.{opened}
use Rattle.daemon_core.specs.Housed.{HouseLogView, rows_before}
use Rattle.daemon_core.specs.Openings.{house_log_of}
use Rattle.daemon_core.proofs.BootHouseLog.{house_log-taken, taken-as}
use Rattle.daemon_core.proofs.OpeningKept.{taken-now}
use Rattle.daemon_core.proofs.house_log.HouseLog.take_opening.Goals as goal

pub invariant_of-self : goal.invariant_of-self
invariant_of-self c =
    let old : HouseLogView = house_log_of c.self.inside in
    let same : as_were c.args.formers.items c.set_rows.new.self.rows ≡ c.args.rows.items = taken-now c.args.formers.items c.args.rows.items c.set_rows.new.self.rows c.requires.formers (ap (λ (x : Core). x.rows) c.set_rows.ensures.same) in
    record {
      house_log =
          house_log-taken old (as_were c.args.formers.items c.set_rows.new.self.rows) c.args.rows.items c.set_rows.new.self (vec_capacity c.self.inside.makers - vec_len c.self.inside.makers) c.self.invariant.house_log
          (subst (λ (a : HouseLogView). a.loaded ≡ false) (sym c.self.view_is) c.requires.unloaded) same c.set_rows.ensures.same refl
          (c.set_rows.ensures.stands c.self.inside.facts (rows_before old) c.self.invariant.house_log.stands);
      opening = c.requires.formers ∙ sym (ap (λ (rs : List Row). map former_of rs) same);
    }

pub returns : goal.returns
returns c =
    let old : HouseLogView = house_log_of c.self.inside in
    let same : as_were c.args.formers.items c.set_rows.new.self.rows ≡ c.args.rows.items = taken-now c.args.formers.items c.args.rows.items c.set_rows.new.self.rows c.requires.formers (ap (λ (x : Core). x.rows) c.set_rows.ensures.same) in
    record {
      opened =
          taken-as old (as_were c.args.formers.items c.set_rows.new.self.rows) c.args.rows.items c.set_rows.new.self (vec_capacity c.self.inside.makers - vec_len c.self.inside.makers) same c.set_rows.ensures.same refl
          ∙ ap (λ (a : HouseLogView). opened c.args.rows.items c.set_rows.new.self.row_room a) c.self.view_is;
    }
