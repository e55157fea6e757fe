use Rattle.std.proofs.Common.{◌≡◌, List, [], ◌∷◌, length, map, All, sym, ap, ◌∙◌, subst}
use Rattle.std.proofs.lemmas.List.{length-map}
use Rattle.fw_facts.specs.declared.seen.Seen.{Seen}
use Rattle.history_keeper.specs.declared.row.Row.{Row}
use Rattle.core_state.specs.Core.{Core, Stands}
use Rattle.update_log.specs.Known.{basis_of}
use Rattle.core_state.proofs.FirstSteps.{stands-reserved}
use Rattle.first_boots.specs.FirstBoot.{IsFirstShown, first_boot, shown_by}
use Rattle.first_boots.proofs.FirstBoots.{first_shown, rows_before}
use Rattle.first_boots.proofs.first_boot.state_at_first_boot.Goals as goal

pub boot-requires : goal.boot-requires
boot-requires c =
    let e : c.deref.result.now ≡ map shown_by c.args.boards.now = c.deref.ensures.value ∙ c.in_ok-shown.ensures in
    let count : length c.deref.result.now ≡ length c.args.facts.now.sheets = ap length e ∙ length-map c.args.boards.now shown_by ∙ c.requires.count in
    let empty : c.reserve.new.self.log ≡ [] = ap (λ (k : Core). k.log) c.in_ok-reserve.ensures.same ∙ c.in_ok-state.ensures.empty in
    let stands : Stands (basis_of c.args.facts.now c.args.rows.now) c.reserve.new.self =
    stands-reserved (basis_of c.args.facts.now c.args.rows.now) c.in_ok-state.state c.reserve.new.self c.in_ok-reserve.ensures.same c.in_ok-state.ensures.stands in
    record {
      stands = subst (λ (rows : List Row). Stands (basis_of c.args.facts.now rows) c.reserve.new.self) (sym (rows_before (basis_of c.args.facts.now c.args.rows.now) c.reserve.new.self empty stands)) stands;
      empty = empty;
      room = c.in_ok-reserve.ensures.room;
      few = rw count c.requires.few;
      count = count;
      made = subst (All IsFirstShown) (sym e) (first_shown c.args.boards.now c.requires.made);
    }

pub returns-clause-log : goal.returns-clause-log
returns-clause-log c =
    let e : c.deref.result.now ≡ map shown_by c.args.boards.now = c.deref.ensures.value ∙ c.in_ok-shown.ensures in
    c.in_ok-boot.ensures.log ∙ ap (λ (shown : List Seen). first_boot c.args.plan.now shown ∷ []) e

pub returns-clause-stands : goal.returns-clause-stands
returns-clause-stands c =
    let empty : c.reserve.new.self.log ≡ [] = ap (λ (k : Core). k.log) c.in_ok-reserve.ensures.same ∙ c.in_ok-state.ensures.empty in
    let stands : Stands (basis_of c.args.facts.now c.args.rows.now) c.reserve.new.self =
    stands-reserved (basis_of c.args.facts.now c.args.rows.now) c.in_ok-state.state c.reserve.new.self c.in_ok-reserve.ensures.same c.in_ok-state.ensures.stands in
    subst (λ (rows : List Row). Stands (basis_of c.args.facts.now rows) c.boot.new.state) (rows_before (basis_of c.args.facts.now c.args.rows.now) c.reserve.new.self empty stands) c.in_ok-boot.ensures.stands
