use Rattle.std.proofs.Common.{◌≡◌, [], List, ap, sym, ◌∙◌, subst}
use Rattle.history_keeper.specs.declared.row.Row.{Row}
use Rattle.core_state.proofs.FirstSteps.{stands-reserved}
use Rattle.core_state.specs.Core.{Core, Stands}
use Rattle.log_stories.specs.Stories.{RunsOn}
use Rattle.update_log.specs.Pasts.{past_of}
use Rattle.update_log.specs.Known.{basis_of}
use Rattle.log_stories.proofs.story.Story.booted.Goals as goal

pub boot-requires : goal.boot-requires
boot-requires c =
    let same = c.set_rows.ensures.same in
    let reserved = c.in_ok-reserve.ensures.same in
    record {
      each = c.requires.each;
      shown = c.in_ok-boards.ensures;
      stands =
          let rows_are = ap (λ (k : Core). k.rows) reserved ∙ ap (λ (k : Core). k.rows) same in
          subst (λ (rs : List Row). Stands (basis_of c.args.facts rs) c.reserve.new.self) (sym rows_are)
          (stands-reserved (basis_of c.args.facts c.args.rows.items) c.set_rows.new.self c.reserve.new.self reserved (c.set_rows.ensures.stands c.args.facts [] c.in_ok-state.ensures.stands));
      empty = ap (λ (k : Core). k.log) reserved ∙ ap (λ (k : Core). k.log) same ∙ c.in_ok-state.ensures.empty;
      room = let r = c.in_ok-reserve.ensures.room in r;
    }

pub invariant_of-result : goal.invariant_of-result
invariant_of-result c =
    let copied = c.in_ok-opening.ensures.items in
    let read = c.deref.ensures.value in
    let put = ap (λ (k : Core). k.rows) c.set_rows.ensures.same in
    let kept = ap (λ (k : Core). k.rows) c.in_ok-reserve.ensures.same in
    let same : c.reserve.new.self.rows ≡ c.in_ok-opening.opening.items = cc in
    record {
      runs = subst (λ (rs : List Row). RunsOn (basis_of c.args.facts rs) (past_of c.boot.new.state.log)) same c.boot.ensures.runs;
      stands = subst (λ (rs : List Row). Stands (basis_of c.args.facts rs) c.boot.new.state) same c.boot.ensures.stands;
    }

pub returns : goal.returns
returns c =
    let copied = c.in_ok-opening.ensures.items in
    let read = c.deref.ensures.value in
    let same : c.in_ok-opening.opening.items ≡ c.args.rows.items = cc in
    record { begun = record { basis = ap (basis_of c.args.facts) same; log = c.boot.ensures.log } }
